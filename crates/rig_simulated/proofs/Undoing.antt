-- What was closed last is opened again, and one crosspoint more is closed.
use Rattle.std.proofs.Common.{◌≡◌, ◌≢◌, ◌⊎◌, inl, inr, ⊎_elim, ℕ, ◌+◌, ◌-◌, ◌<◌, ◌≤◌, Bool, true, false, Option, Some, None, List, [], ◌∷◌, ◌++◌, length, map, take, get_or, cond, ltb, refl, sym, ap, ◌∙◌, subst, arith, is_some}
use Rattle.std.proofs.lemmas.Bool.{false≢true, cases_eq, cases_lt, cond-true, cond-false, lt-ltb, le-ltb}
use Rattle.std.proofs.lemmas.List.{same_lists, length_push, take_all, take-take, length-take-le, take-append-le, get_or_push, get_or_append_left, map_push}
use Rattle.rig_simulated.proofs.Vocabulary.{Shape, Cross, wires_of, ends_of, Faults, stuck_wire, stuck_cross, Net, ClassNode, Closed}
use Rattle.rig_simulated.specs.declared.classes.{Tie.Tie, Classes.Classes}
use Rattle.rig_simulated.specs.Classes.{knot_at, HasRoots, AreTied, HasLink, HaveSameLinks, IsHung, IsTieOf, IsUntied, IsWithinKnots, IsOpenedBy}
use Rattle.rig_simulated.specs.Building.{closed_net, base_most, AreBase, AreOpenable, cross_of, AreClosedBy, HasClosed}
use Rattle.rig_simulated.proofs.ClassLemmas.{knot_is}
use Rattle.rig_simulated.proofs.Joining.{same_knots, tied_roots, tied_alike}
use Rattle.rig_simulated.proofs.Links.{closed_more, stuck_same}

-- the knots before a tie are determined
pub untied_once : (tie : Tie) (tied before other : List ClassNode) → IsUntied tie tied before → IsUntied tie tied other → before ≡ other
untied_once tie tied before other x y = same_lists before other len (λ k d h. knot_is before k d h ∙ at k (cases_eq k tie.high) (cases_eq k tie.low) ∙ sym (knot_is other k d (omega (arith, h, len))))
  where
    len : length before ≡ length other
    len = x.len ∙ sym y.len

    at : (k : ℕ) → (k ≡ tie.high) ⊎ (k ≢ tie.high) → (k ≡ tie.low) ⊎ (k ≢ tie.low) → knot_at before k ≡ knot_at other k
    at k (inl e) l = rw e (x.high ∙ sym y.high)
    at k (inr n) (inl e) = rw e (x.low ∙ sym y.low)
    at k (inr n) (inr m) = x.others k m n ∙ sym (y.others k m n)

-- a tie that was made can be parted again
pub hung_parts : (tie : Tie) (before tied : List ClassNode) → IsHung before tied tie.low tie.high → (knot_at before tie.low).parent ≡ tie.low → (knot_at before tie.high).parent ≡ tie.high →
    tie.rank ≡ (knot_at before tie.high).rank → tie.held ≡ (knot_at before tie.high).held → IsWithinKnots tie (length before) → IsUntied tie tied before
hung_parts tie before tied hung low_top high_top rank held within = record {
  within = subst (IsWithinKnots tie) (sym hung.len) within;
  len = sym hung.len;
  low = λ i. record { parent = low_top i; rank = sym hung.rank i; held = sym hung.low_held i };
  high = λ i. record { parent = high_top i; rank = sym rank i; held = sym held i };
  others = λ w n m. sym (hung.others w n m);
}

-- a tie of two roots
module _ {knots : List ClassNode} {r o : ℕ} {tie : Tie} (is : IsTieOf knots r o tie) where
  pub tie_sides : (P : ℕ → Type 0) → P r → P o → P tie.low × P tie.high
  tie_sides P x y = ⊎_elim (λ p. (subst P (sym p.0) x, subst P (sym p.1) y)) (λ p. (subst P (sym p.0) y, subst P (sym p.1) x)) is.ends

  pub tie_hung : (new : List ClassNode) → IsHung knots new tie.low tie.high → IsHung knots new r o ⊎ IsHung knots new o r
  tie_hung new hung = ⊎_elim
      (λ p. inl (subst (λ x. IsHung knots new x o) p.0 (subst (λ y. IsHung knots new tie.low y) p.1 hung)))
      (λ p. inr (subst (λ x. IsHung knots new x r) p.0 (subst (λ y. IsHung knots new tie.low y) p.1 hung)))
      is.ends

-- the roots of the ends of a crosspoint that is closed
module _ (cross : Cross) (a b : ℕ) (old new : Classes) (r o : ℕ) (r_is : (most : ℕ) (root : ℕ → ℕ) → HasRoots old.knots.items most root → r ≡ root a) (o_is : (most : ℕ) (root : ℕ → ℕ) → HasRoots old.knots.items most root → o ≡ root b) where
  pub closed_within : r ≡ o → new.closed.items ≡ old.closed.items ++ record { cross = cross; tie = None } ∷ [] → new.knots.items ≡ old.knots.items → HasClosed cross a b old new
  closed_within same list knots = record {
    step = record { cross = cross; tie = None };
    is = refl;
    closed = list;
    back = sym knots;
    len = ap length knots;
    joined = λ net more stuck most t link. subst (λ ks. AreTied more stuck ks (most + 1)) (sym knots)
        (record { root = t.root; knots_are = same_knots t.knots_are link (sym (r_is most t.root t.knots_are.roots) ∙ same ∙ o_is most t.root t.knots_are.roots) });
  }

  pub closed_tied : (tie : Tie) → r < length old.knots.items → o < length old.knots.items → (knot_at old.knots.items r).parent ≡ r → (knot_at old.knots.items o).parent ≡ o → r ≢ o → IsTieOf old.knots.items r o tie →
      IsWithinKnots tie (length old.knots.items) → IsHung old.knots.items new.knots.items tie.low tie.high → new.closed.items ≡ old.closed.items ++ record { cross = cross; tie = Some tie } ∷ [] → HasClosed cross a b old new
  closed_tied tie r_in o_in r_top o_top apart is within hung list =
      let tops = tie_sides is (λ w. (knot_at old.knots.items w).parent ≡ w) r_top o_top in
      record {
        step = record { cross = cross; tie = Some tie };
        is = refl;
        closed = list;
        back = hung_parts tie old.knots.items new.knots.items hung tops.0 tops.1 is.rank is.held within;
        len = hung.len;
        joined = λ net more stuck most t link.
            tied_roots t link (r_is most t.root t.knots_are.roots) (o_is most t.root t.knots_are.roots) r_in o_in r_top o_top apart (tie_hung is new.knots.items hung);
      }

take_front : {X : Type 0} (xs : List X) (x : X) (n : ℕ) → n ≤ length xs → take n (xs ++ x ∷ []) ≡ take n xs
take_front xs x n h = take-append-le n xs (x ∷ []) h

take_own : {X : Type 0} (xs : List X) (x : X) (n : ℕ) → n ≡ length xs → take n (xs ++ x ∷ []) ≡ xs
take_own xs x n e = take_front xs x n (omega (arith, e)) ∙ take_all n xs (omega (arith, e))

-- what was closed last is the first to be opened
module _ (rest : List Closed) (last : Closed) (knots : List ClassNode) (o : AreOpenable (rest ++ last ∷ []) knots) where
  count : length (rest ++ last ∷ []) ≡ length rest + 1
  count = length_push rest last

  pub last_back : IsOpenedBy last.tie knots (o.stage (length rest))
  last_back = subst (λ ks. IsOpenedBy last.tie ks (o.stage (length rest))) (ap o.stage (sym count) ∙ o.now)
      (subst (λ (s : Closed). IsOpenedBy s.tie (o.stage (length rest + 1)) (o.stage (length rest))) (get_or_push rest last last (length rest) refl)
      (o.back (length rest) last (omega (arith, count))))

  pub opened : (before : List ClassNode) → before ≡ o.stage (length rest) → AreOpenable rest before
  opened before e = record {
    stage = o.stage;
    back = λ n d h. subst (λ (s : Closed). IsOpenedBy s.tie (o.stage (n + 1)) (o.stage n)) (get_or_append_left rest (last ∷ []) d n h) (o.back n d (omega (arith, h, count)));
    now = sym e;
  }

-- the knots that an opening leads to
pub opened_is : (tie : Option Tie) (knots before other : List ClassNode) → IsOpenedBy tie knots before → IsOpenedBy tie knots other → before ≡ other
opened_is None knots before other e f = e ∙ sym f
opened_is (Some tie) knots before other e f = untied_once tie knots before other e f

pub opened_closed : (m : Shape) (f : Faults) (rest : List Closed) (last : Closed) (knots before : List ClassNode) → AreClosedBy m f (rest ++ last ∷ []) knots → IsOpenedBy last.tie knots before → AreClosedBy m f rest before
unfolding opened
opened_closed m f rest last knots before c back = record {
  openable = opened rest last knots c.openable before (opened_is last.tie knots before (c.openable.stage (length rest)) back (last_back rest last knots c.openable));
  len = λ n h. c.len n (omega (arith, h, length_push rest last));
  tied = λ n h. subst (λ (l : List Closed). AreTied (closed_net m f (map cross_of l)) (stuck_wire f) (c.openable.stage n) (base_most + n)) (take_front rest last n h) (c.tied n (omega (arith, h, length_push rest last)));
}

-- nothing is closed
pub none_closed : (m : Shape) (f : Faults) (closed : List Closed) (knots base : List ClassNode) → closed ≡ [] → knots ≡ base → AreBase m f base → AreClosedBy m f closed knots
none_closed m f closed knots base e s are = subst (λ (l : List Closed). AreClosedBy m f l knots) (sym e) (record {
  openable = record { stage = λ n. knots; back = λ n d h. absurd (let z : length {A = Closed} [] ≡ 0 = refl in omega (arith, h, z)); now = refl };
  len = λ n h. ap length s ∙ are.len;
  tied = λ n h. subst (λ (l : List Closed). AreTied (closed_net m f (map cross_of l)) (stuck_wire f) knots (base_most + n)) (sym (take_all n [] (omega arith)))
      (tied_alike (base_most + n) (same_links (closed_net m f [])) (omega arith) (subst (λ ks. AreTied (closed_net m f []) (stuck_wire f) ks base_most) (sym s) are.tied));
})
  where
    same_links : (net : Net) → HaveSameLinks net net
    same_links net = record { to = λ u v l. l; from = λ u v l. l }

-- the knots are those of what is closed now
pub closed_now : (m : Shape) (f : Faults) (closed : List Closed) (knots : List ClassNode) → AreClosedBy m f closed knots → AreTied (closed_net m f (map cross_of closed)) (stuck_wire f) knots (base_most + length closed)
closed_now m f closed knots c = subst (λ ks. AreTied (closed_net m f (map cross_of closed)) (stuck_wire f) ks (base_most + length closed)) c.openable.now
    (subst (λ (l : List Closed). AreTied (closed_net m f (map cross_of l)) (stuck_wire f) (c.openable.stage (length closed)) (base_most + length closed)) (take_all (length closed) closed (omega arith)) (c.tied (length closed) (omega arith)))

pub closed_len : (m : Shape) (f : Faults) (closed : List Closed) (knots : List ClassNode) → AreClosedBy m f closed knots → length knots ≡ wires_of m
closed_len m f closed knots c = ap length (sym c.openable.now) ∙ c.len (length closed) (omega arith)

-- one crosspoint more
module _ (m : Shape) (f : Faults) (closed : List Closed) (knots new : List ClassNode) (c : AreClosedBy m f closed knots) (step : Closed) (back : IsOpenedBy step.tie new knots) (len : length new ≡ wires_of m)
    (tied : AreTied (closed_net m f (map cross_of (closed ++ step ∷ []))) (stuck_wire f) new (base_most + (length closed + 1))) where
  all_count : length (closed ++ step ∷ []) ≡ length closed + 1
  all_count = length_push closed step

  abbrev stage : ℕ → List ClassNode
  stage n = cond (ltb (length closed) n) new (c.openable.stage n)

  early : (n : ℕ) → n ≤ length closed → stage n ≡ c.openable.stage n
  early n h = cond-false (ltb (length closed) n) new (c.openable.stage n) (le-ltb (length closed) n h)

  late : (n : ℕ) → length closed < n → stage n ≡ new
  late n h = cond-true (ltb (length closed) n) new (c.openable.stage n) (lt-ltb (length closed) n h)

  before_is : (n : ℕ) → n ≡ length closed → stage n ≡ knots
  before_is n e = early n (omega (arith, e)) ∙ ap c.openable.stage e ∙ c.openable.now

  back_at : (n : ℕ) (d : Closed) → n < length (closed ++ step ∷ []) → (n < length closed) ⊎ (length closed ≤ n) → IsOpenedBy (get_or (closed ++ step ∷ []) n d).tie (stage (n + 1)) (stage n)
  back_at n d h (inl l) = subst (λ (s : Closed). IsOpenedBy s.tie (stage (n + 1)) (stage n)) (sym (get_or_append_left closed (step ∷ []) d n l))
      (subst (λ ks. IsOpenedBy (get_or closed n d).tie ks (stage n)) (sym (early (n + 1) (omega (arith, l))))
      (subst (λ ks. IsOpenedBy (get_or closed n d).tie (c.openable.stage (n + 1)) ks) (sym (early n (omega (arith, l)))) (c.openable.back n d l)))
  back_at n d h (inr l) =
      let e : n ≡ length closed = omega (arith, h, l, all_count) in
      subst (λ (s : Closed). IsOpenedBy s.tie (stage (n + 1)) (stage n)) (sym (get_or_push closed step d n (sym e)))
      (subst (λ ks. IsOpenedBy step.tie ks (stage n)) (sym (late (n + 1) (omega (arith, e))))
      (subst (λ ks. IsOpenedBy step.tie new ks) (sym (before_is n e)) back))

  len_at : (n : ℕ) → n ≤ length (closed ++ step ∷ []) → (n ≤ length closed) ⊎ (length closed < n) → length (stage n) ≡ wires_of m
  len_at n h (inl l) = ap length (early n l) ∙ c.len n l
  len_at n h (inr l) = ap length (late n l) ∙ len

  tied_at : (n : ℕ) → n ≤ length (closed ++ step ∷ []) → (n ≤ length closed) ⊎ (length closed < n) → AreTied (closed_net m f (map cross_of (take n (closed ++ step ∷ [])))) (stuck_wire f) (stage n) (base_most + n)
  tied_at n h (inl l) = subst (λ (l : List Closed). AreTied (closed_net m f (map cross_of l)) (stuck_wire f) (stage n) (base_most + n)) (sym (take_front closed step n l))
      (subst (λ ks. AreTied (closed_net m f (map cross_of (take n closed))) (stuck_wire f) ks (base_most + n)) (sym (early n l)) (c.tied n l))
  tied_at n h (inr l) =
      let e : n ≡ length closed + 1 = omega (arith, h, l, all_count) in
      subst (λ (l : List Closed). AreTied (closed_net m f (map cross_of l)) (stuck_wire f) (stage n) (base_most + n)) (sym (take_all n (closed ++ step ∷ []) (omega (arith, e, all_count))))
      (subst (λ ks. AreTied (closed_net m f (map cross_of (closed ++ step ∷ []))) (stuck_wire f) ks (base_most + n)) (sym (late n l))
      (subst (λ k. AreTied (closed_net m f (map cross_of (closed ++ step ∷ []))) (stuck_wire f) new (base_most + k)) (sym e) tied))

  pub closed_by_more : AreClosedBy m f (closed ++ step ∷ []) new
  closed_by_more = record {
    openable = record { stage = stage; back = λ n d h. back_at n d h (cases_lt n (length closed)); now = late (length (closed ++ step ∷ [])) (omega (arith, all_count)) };
    len = λ n h. len_at n h (⊎_elim (λ l. inr l) (λ l. inl l) (cases_lt (length closed) n));
    tied = λ n h. tied_at n h (⊎_elim (λ l. inr l) (λ l. inl l) (cases_lt (length closed) n));
  }

-- one crosspoint more in the list of crosspoints
module _ (m : Shape) (f : Faults) (closed : List Closed) (step : Closed) where
  abbrev crosses : List Cross
  crosses = map cross_of closed

  abbrev more : List Cross
  more = map cross_of (closed ++ step ∷ [])

  more_is : more ≡ crosses ++ step.cross ∷ []
  more_is = map_push cross_of closed step

  abbrev at : ℕ
  at = length crosses

  here_is : (d : Cross) → get_or (crosses ++ step.cross ∷ []) at d ≡ step.cross
  here_is d = get_or_push crosses step.cross d at refl

  front_is : take at (crosses ++ step.cross ∷ []) ≡ crosses
  front_is = take_own crosses step.cross at refl

  all_is : take (at + 1) (crosses ++ step.cross ∷ []) ≡ crosses ++ step.cross ∷ []
  all_is = take_all (at + 1) (crosses ++ step.cross ∷ []) (omega (arith, length_push crosses step.cross))

  inside : at < length (crosses ++ step.cross ∷ [])
  inside = omega (arith, length_push crosses step.cross)

  pub link_more : stuck_cross f step.cross.0 ≡ None → HasLink (closed_net m f crosses) (closed_net m f more) (ends_of m step.cross.0).0 (ends_of m step.cross.0).1
  link_more free =
      let d : Cross = step.cross in
      let link = closed_more m f (crosses ++ step.cross ∷ []) at d inside (ap (λ (x : Cross). stuck_cross f x.0) (here_is d) ∙ free) in
      subst (λ l. HasLink (closed_net m f crosses) (closed_net m f l) (ends_of m step.cross.0).0 (ends_of m step.cross.0).1) (sym more_is)
      (subst (λ (x : Cross). HasLink (closed_net m f crosses) (closed_net m f (crosses ++ step.cross ∷ [])) (ends_of m x.0).0 (ends_of m x.0).1) (here_is d)
      (subst (λ l. HasLink (closed_net m f crosses) (closed_net m f l) (ends_of m (get_or (crosses ++ step.cross ∷ []) at d).0).0 (ends_of m (get_or (crosses ++ step.cross ∷ []) at d).0).1) all_is
      (subst (λ l. HasLink (closed_net m f l) (closed_net m f (take (at + 1) (crosses ++ step.cross ∷ []))) (ends_of m (get_or (crosses ++ step.cross ∷ []) at d).0).0 (ends_of m (get_or (crosses ++ step.cross ∷ []) at d).0).1) front_is link)))

  pub stuck_links : (v : Bool) → stuck_cross f step.cross.0 ≡ Some v → HaveSameLinks (closed_net m f crosses) (closed_net m f more)
  stuck_links v is =
      let d : Cross = step.cross in
      let same = stuck_same m f (crosses ++ step.cross ∷ []) at d inside v (ap (λ (x : Cross). stuck_cross f x.0) (here_is d) ∙ is) in
      subst (λ l. HaveSameLinks (closed_net m f crosses) (closed_net m f l)) (sym more_is)
      (subst (λ l. HaveSameLinks (closed_net m f crosses) (closed_net m f l)) all_is
      (subst (λ l. HaveSameLinks (closed_net m f l) (closed_net m f (take (at + 1) (crosses ++ step.cross ∷ [])))) front_is same))

the_value : (o : Option Bool) → is_some o ≡ true → (v : Bool) × (o ≡ Some v)
the_value None e = absurd (false≢true e)
the_value (Some v) e = (v, refl)

pub no_value : (o : Option Bool) → is_some o ≡ false → o ≡ None
no_value None e = refl
no_value (Some v) e = absurd (false≢true (sym e))

-- a crosspoint that is stuck changes no knot
pub closed_stuck : (m : Shape) (f : Faults) (closed : List Closed) (knots : List ClassNode) (cross : Cross) → AreClosedBy m f closed knots → is_some (stuck_cross f cross.0) ≡ true → AreClosedBy m f (closed ++ record { cross = cross; tie = None } ∷ []) knots
closed_stuck m f closed knots cross c is =
    let step : Closed = record { cross = cross; tie = None } in
    let v = the_value (stuck_cross f cross.0) is in
    closed_by_more m f closed knots knots c step refl (closed_len m f closed knots c)
    (tied_alike (base_most + (length closed + 1)) (stuck_links m f closed step v.0 v.1) (omega arith) (closed_now m f closed knots c))

-- a crosspoint that isn't stuck joins its ends
pub closed_joined : (m : Shape) (f : Faults) (cross : Cross) (old new : Classes) → AreClosedBy m f old.closed.items old.knots.items → stuck_cross f cross.0 ≡ None → HasClosed cross (ends_of m cross.0).0 (ends_of m cross.0).1 old new →
    AreClosedBy m f new.closed.items new.knots.items
closed_joined m f cross old new c free h =
    let sum : base_most + length old.closed.items + 1 ≡ base_most + (length old.closed.items + 1) = omega arith in
    let link = subst (λ (x : Cross). HasLink (closed_net m f (map cross_of old.closed.items)) (closed_net m f (map cross_of (old.closed.items ++ h.step ∷ []))) (ends_of m x.0).0 (ends_of m x.0).1) h.is
    (link_more m f old.closed.items h.step (ap (λ (x : Cross). stuck_cross f x.0) h.is ∙ free)) in
    subst (λ (l : List Closed). AreClosedBy m f l new.knots.items) (sym h.closed)
    (closed_by_more m f old.closed.items old.knots.items new.knots.items c h.step h.back (h.len ∙ closed_len m f old.closed.items old.knots.items c)
    (subst (AreTied (closed_net m f (map cross_of (old.closed.items ++ h.step ∷ []))) (stuck_wire f) new.knots.items) sum
    (h.joined (closed_net m f (map cross_of old.closed.items)) (closed_net m f (map cross_of (old.closed.items ++ h.step ∷ []))) (stuck_wire f) (base_most + length old.closed.items) (closed_now m f old.closed.items old.knots.items c) link)))

pub crosses_more : (closed new : List Closed) (step : Closed) (cross : Cross) → new ≡ closed ++ step ∷ [] → step.cross ≡ cross → map cross_of new ≡ map cross_of closed ++ cross ∷ []
crosses_more closed new step cross e is = ap (map cross_of) e ∙ map_push cross_of closed step ∙ ap (λ x. map cross_of closed ++ x ∷ []) is

-- a shorter beginning of a beginning
pub take_shorter : {X : Type 0} (xs ys zs : List X) → ys ≡ take (length ys) xs → zs ≡ take (length ys - 1) ys → (length zs ≡ length ys - 1) × (zs ≡ take (length zs) xs)
take_shorter xs ys zs e f = (len, f ∙ ap (take (length ys - 1)) e ∙ take-take (length ys - 1) (length ys) xs (omega arith) ∙ ap (λ n. take n xs) (sym len))
  where
    len : length zs ≡ length ys - 1
    len = ap length f ∙ length-take-le (length ys - 1) ys (omega arith)
