-- The nets of a configuration, by the lowest wires of its groups.
use Rattle.std.proofs.Common.{◌≡◌, ◌≢◌, ◌⊎◌, ℕ, ◌<◌, ◌≤◌, Bool, true, false, List, length, get_or, refl, sym, ap, ◌∙◌, subst, inl, inr, arith}
use Rattle.std.specs.List.{All, Contains}
use Rattle.machine_shape.specs.Vocabulary.{Ends, in_order, turned, ends_of, wires_of, IsNumbered}
use Rattle.machine_meaning.specs.Joined.{here, then, crossed, bridged}
use Rattle.place_repair.proofs.Vocabulary.{Joined-trans, Joined-sym, false≢true, get_or_default, get_or_read, Configuration}
use Rattle.place_repair.proofs.Vocabulary.{IsConfiguration, is_closed, keeps, AreThose, nth_of, same_place, parent_at, AreLowest, AreNetsOf}
use Rattle.place_plan.proofs.PlanNets.{few_below}
use Rattle.place_repair.specs.Nets.{HangTogether, IsEnd, as_tap, as_line, IsLowest, HasWire, AreNumbered}
use Rattle.place_repair.specs.declared.nets.NetList.{NetList}

-- a walk that leads elsewhere ends at a closed crosspoint
pub walk_end : (g : Configuration) {a b : ℕ} → HangTogether g a b → (a ≡ b) ⊎ IsEnd g b
walk_end g here = inl refl
walk_end g (then j (crossed x on (in_order s t))) = inr (as_line x on t)
walk_end g (then j (crossed x on (turned s t))) = inr (as_tap x on s)
walk_end g (then j (bridged p is at)) = absurd (false≢true is)

module _ (g : Configuration) (numbered : IsNumbered g.shape) (right : IsConfiguration g) where
  end_within : (w : ℕ) → IsEnd g w → w < wires_of g.shape
  end_within w (as_tap x on e) = subst (λ z. z < wires_of g.shape) e (numbered.ends x _ _ (right.crosses x on) (in_order refl refl))
  end_within w (as_line x on e) = subst (λ z. z < wires_of g.shape) e (numbered.ends x _ _ (right.crosses x on) (turned refl refl))

  pub wire_within : (w : ℕ) → IsEnd g w → w < wires_of g.shape
  wire_within = end_within

  hang_within : {a b : ℕ} → HangTogether g a b → a < wires_of g.shape → b < wires_of g.shape
  hang_within j l = keeps g.shape (is_closed g) (λ v. v < wires_of g.shape) (λ x a b on at h. numbered.ends x b a (right.crosses x on) (turned_ends at)) j l
    where
      turned_ends : {p : ℕ × ℕ} {a b : ℕ} → Ends p a b → Ends p b a
      turned_ends (in_order s t) = turned s t
      turned_ends (turned s t) = in_order s t

  -- by the list of the nets' lowest wires
  module _ (lowest : List ℕ) (are : AreThose (IsLowest g) lowest) where
    low_at : (k : ℕ) → k < length lowest → IsLowest g (nth_of lowest k)
    low_at k l = are.only k 0 l

    pub has_end : (k w : ℕ) → HasWire g lowest k w → IsEnd g w
    has_end k w has = by (walk_end g has.1)
      where
        by : (nth_of lowest k ≡ w) ⊎ IsEnd g w → IsEnd g w
        by (inl e) = subst (IsEnd g) e (low_at k has.0).touched
        by (inr is) = is

    pub has_within : (k w : ℕ) → HasWire g lowest k w → w < wires_of g.shape
    has_within k w has = end_within w (has_end k w has)

    -- a wire is of one net
    pub one_net_has : (k l w : ℕ) → HasWire g lowest k w → HasWire g lowest l w → k ≡ l
    one_net_has k l w p q =
        let to : HangTogether g (nth_of lowest k) (nth_of lowest l) = Joined-trans p.1 (Joined-sym q.1) in
        let le = (low_at k p.0).least (nth_of lowest l) to in
        let ge = (low_at l q.0).least (nth_of lowest k) (Joined-sym to) in
        same_place lowest k l (nth_of lowest l) are.ascending (p.0, omega (arith, le, ge)) (q.0, refl)

    pub has_on : (k w u : ℕ) → HasWire g lowest k w → HangTogether g w u → HasWire g lowest k u
    has_on k w u has j = (has.0, Joined-trans has.1 j)

    pub hang_in_net : (k w u : ℕ) → HasWire g lowest k w → HasWire g lowest k u → HangTogether g w u
    hang_in_net k w u p q = Joined-trans (Joined-sym p.1) q.1

  -- by the lowest wire of each wire's group
  module _ (lows : List ℕ) (are : AreLowest g lows) where
    lows_along : {a b : ℕ} → HangTogether g a b → parent_at lows b ≡ parent_at lows a
    lows_along {a} j = keeps g.shape (is_closed g) (λ v. parent_at lows v ≡ parent_at lows a) step j refl
      where
        step : (x u v : ℕ) → is_closed g x ≡ true → Ends (ends_of g.shape x) u v → parent_at lows u ≡ parent_at lows a → parent_at lows v ≡ parent_at lows a
        step x u v on (in_order s t) e = ap (parent_at lows) (sym t) ∙ sym (are.same x on) ∙ ap (parent_at lows) s ∙ e
        step x u v on (turned s t) e = ap (parent_at lows) (sym s) ∙ are.same x on ∙ ap (parent_at lows) t ∙ e

    pub is_lowest : (w : ℕ) → IsEnd g w → parent_at lows w ≡ w → IsLowest g w
    is_lowest w end e = record { touched = end; least = λ u j. (let q = lows_along j in let l = are.low u (hang_within j (end_within w end)) in omega (arith, q, l, e)) }

    pub lowest_is : (w : ℕ) → IsLowest g w → parent_at lows w ≡ w
    lowest_is w is = (let l = are.low w (end_within w is.touched) in let m = is.least (parent_at lows w) (are.joined w (end_within w is.touched)) in omega (arith, l, m))

    -- the lowest of a wire's group is one
    pub lows_lowest : (w : ℕ) → IsEnd g w → IsLowest g (parent_at lows w)
    lows_lowest w end = is_lowest (parent_at lows w) (by (walk_end g j)) (lows_along j)
      where
        j : HangTogether g w (parent_at lows w)
        j = are.joined w (end_within w end)

        by : (w ≡ parent_at lows w) ⊎ IsEnd g (parent_at lows w) → IsEnd g (parent_at lows w)
        by (inl e) = subst (IsEnd g) e end
        by (inr is) = is

  module _ (n : NetList) (nets : AreNetsOf g n) where
    pub number_has : (w : ℕ) → IsEnd g w → HasWire g n.lowest (get_or n.numbers.items (parent_at n.lows.items w) 0) w
    number_has w end = subst (λ k. HasWire g n.lowest k w) number (within, subst (λ v. HangTogether g v w) (sym at) (Joined-sym (nets.lows_are.joined w (end_within w end))))
      where
        low : ℕ
        low = parent_at n.lows.items w

        place : Contains n.lowest (parent_at n.lows.items w)
        place = nets.lowest_are.each (parent_at n.lows.items w) (lows_lowest n.lows.items nets.lows_are w end)

        within : place.0 < length n.lowest
        within = place.1

        at : nth_of n.lowest place.0 ≡ parent_at n.lows.items w
        at = get_or_default n.lowest place.0 0 (parent_at n.lows.items w) place.1 ∙ place.2

        number : place.0 ≡ get_or n.numbers.items (parent_at n.lows.items w) 0
        number = sym (nets.numbers_are place.0 place.1) ∙ ap (λ v. get_or n.numbers.items v 0) at

    pub are_numbered : AreNumbered g n.lowest
    are_numbered = record { lowest_are = nets.lowest_are; each = λ w end. (get_or n.numbers.items (parent_at n.lows.items w) 0, number_has w end) }

module _ (g : Configuration) (numbered : IsNumbered g.shape) (right : IsConfiguration g) (lowest : List ℕ) (are : AreThose (IsLowest g) lowest) where
  pub lowest_within : All (λ w. w < wires_of g.shape) lowest
  lowest_within k d l = wire_within g numbered right (get_or lowest k d) (are.only k d l).touched

  different : (a b : ℕ) → a < b → a ≢ b
  different a b l e = absurd (omega (arith, l, e))

  pub lowest_few : length lowest ≤ wires_of g.shape
  lowest_few = few_below lowest (wires_of g.shape) lowest_within (λ i j d l h. different (get_or lowest i d) (get_or lowest j d) (are.ascending i j d l h))

-- a net with the line of a closed crosspoint has its tap
pub line_to_tap : (g : Configuration) (lowest : List ℕ) (k x : ℕ) → is_closed g x ≡ true → HasWire g lowest k (ends_of g.shape x).1 → HasWire g lowest k (ends_of g.shape x).0
line_to_tap g lowest k x on wire = (wire.0, then wire.1 (crossed x on (turned refl refl)))

-- ---- whether a net moves, as it is read

pub mark_within : (moves : List Bool) {n net : ℕ} → length moves ≡ n → net < n → net < length moves
mark_within moves {net = net} sized less = subst (λ k. net < k) (sym sized) less

pub mark_read : (moves : List Bool) {n : ℕ} (net : ℕ) {read : Bool} → length moves ≡ n → net < n → read ≡ get_or moves net read → read ≡ get_or moves net false
mark_read moves net {read} sized less at = get_or_read moves net read (mark_within moves sized less) at false
