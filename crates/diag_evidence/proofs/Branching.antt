-- What a look at walks that branch from a forest shows of their crosspoints.
use Rattle.std.proofs.Common.{◌≡◌, ◌≢◌, ◌⊎◌, inl, inr, ℕ, ◌<◌, ◌+◌, Bool, true, false, not, ◌&&◌, ◌||◌, Some, None, Option, List, [], ◌∷◌, ◌++◌, length, get_or, refl, sym, ap, ◌∙◌, subst, arith, ◌==◌, is_some}
use Rattle.std.specs.List.{list_any, filter, IsDistinct}
use Rattle.diag_evidence.proofs.Vocabulary.{option_map_or, nat_tests, filter-append, list_any-append, list_any_at, Shape, ends_of, pin_wire}
use Rattle.diag_evidence.proofs.Vocabulary.{pins_of, Joined-sym, Joined-trans, closed_already, LeadsTo-within, LeadsTo-start, LeadsTo-end}
use Rattle.diag_evidence.proofs.Vocabulary.{closed_before, quiet_load, left_low, right_high, conducting, cross_toggled, Lead}
use Rattle.std.proofs.lemmas.{Bool.false≢true, Bool.and_parts, Bool.or_cases, Bool.or_left, Bool.or_right, Map.Views.any-filter_same}
use native.Mathlib.Decide.{ℕ_discrete}
use Rattle.machine_meaning.specs.Vocabulary.{Pins, Outputs, Faults, stuck_cross, Joined, here, Shorted, net_of, IsClear}
use Rattle.machine_config.specs.Vocabulary.{Configuration, is_closed, with_open, circuit_of, IsRun, among, IsWithin, AreGroups, LeadsTo, ends, Runs, Cycles, none, cycle, at_load}
use Rattle.diag_evidence.specs.Vocabulary.{Kept, HoldsFor, Trees, HangsOn, pin_of, is_hung, is_laid, IsForest, IsOfTree, IsLook, one_driven, differ, parts, BranchFrom, IsLead, KnowsLeads, closes_along, crosses_along, crosses_of_leads, is_met, loose_along, wires_along, wires_of_leads}
use Rattle.diag_evidence.proofs.Advancing.{joined_along}
use Rattle.diag_evidence.proofs.Footing.{pin_below}
use Rattle.diag_evidence.proofs.Found.{IsSome_of, some_of}
use Rattle.diag_evidence.proofs.Leading.{IsCut, cut, IsIn, is_in, stands_in, own_once, one_walk, first_or_more, not_true, none_by, open_again, distinct_apart}
use Rattle.diag_evidence.proofs.Parting.{IsParting, parting}
use Rattle.diag_evidence.proofs.Seeing.{all_rows, row_under, part_unjoined, standing}
use Rattle.diag_evidence.proofs.Unfitting.{root_hangs, one_low, only_low}

-- a wire has been met, and stands on a side
record IsOn (met side : ℕ → Bool) (b : Bool) (w : ℕ) : Type 0 where
  inside : met w ≡ true
  at : side w ≡ b

near_one : (a b : Bool) → a ≡ true → b ≡ false → (a && not b) ≡ true
near_one true true e f = absurd (false≢true (sym f))
near_one true false e f = refl
near_one false b e f = e

far_one : (a b : Bool) → a ≡ true → b ≡ true → (a && b) ≡ true
far_one true b e f = f
far_one false b e f = e

unlike : (a b : Bool) → a ≡ false → b ≡ true → differ a b ≡ true
unlike true b e f = absurd (false≢true (sym e))
unlike false b e f = f

-- both ends of a crosspoint stand on one side
record IsOnOne (m : Shape) (met side : ℕ → Bool) (x : ℕ) : Type 0 where
  which : Bool
  tap : IsOn met side which (ends_of m x).0
  line : IsOn met side which (ends_of m x).1

-- Where each closed crosspoint has both its ends on one side, and all wires that are met are clear and not shorted to one another, the two
-- sides are two groups.
module _ (m : Shape) (f : Faults) (closed met side : ℕ → Bool) (clear : (w : ℕ) → met w ≡ true → IsClear m f w)
    (unshorted : (w u : ℕ) → met w ≡ true → met u ≡ true → w ≢ u → ¬ Shorted m f w u) (on_one : (x : ℕ) → closed x ≡ true → IsOnOne m met side x) where
  abbrev near_side : ℕ → Bool
  near_side w = met w && not (side w)

  abbrev far_side : ℕ → Bool
  far_side w = met w && side w

  near_at : (w : ℕ) → IsOn met side false w → near_side w ≡ true
  near_at w s = near_one (met w) (side w) s.inside s.at

  far_at : (w : ℕ) → IsOn met side true w → far_side w ≡ true
  far_at w s = far_one (met w) (side w) s.inside s.at

  two_sides : AreGroups m f closed near_side far_side
  two_sides = record {
    within = λ x on. by x (on_one x on);
    left_clear = λ w h. clear w (and_parts (met w) (not (side w)) h).0;
    right_clear = λ w h. clear w (and_parts (met w) (side w) h).0;
    apart = λ w u h q. unshorted w u (and_parts (met w) (not (side w)) h).0 (and_parts (met u) (side u) q).0
        (λ e. false≢true (sym (not_true (side w) (and_parts (met w) (not (side w)) h).1) ∙ ap side e ∙ (and_parts (met u) (side u) q).1));
  }
    where
      by : (x : ℕ) → IsOnOne m met side x → IsWithin m near_side x ⊎ IsWithin m far_side x
      by x s = by_side s.which s.tap s.line
        where
          by_side : (b : Bool) → IsOn met side b (ends_of m x).0 → IsOn met side b (ends_of m x).1 → IsWithin m near_side x ⊎ IsWithin m far_side x
          by_side false t l = inl (record { tap = near_at _ t; line = near_at _ l })
          by_side true t l = inr (record { tap = far_at _ t; line = far_at _ l })

-- how a wire stands in a walk
data StandsIn (trees : Trees) (first last w : ℕ) : Type 0 where
  at_first : first ≡ w → StandsIn trees first last w
  loosely : pin_of trees w ≡ None → StandsIn trees first last w
  at_last : last ≡ w → StandsIn trees first last w

stands : {trees : Trees} {l : Lead} (t : IsLead trees l) (w : ℕ) → among (wires_along l) w ≡ true → StandsIn trees t.first t.last w
stands {trees} {l} t w is = by (first_or_more t.first w (t.between ++ t.last ∷ []) (ap (λ ws. among ws w) (sym t.wires) ∙ is))
  where
    by_last : (t.last ≡ w) ⊎ (among [] w ≡ true) → StandsIn trees t.first t.last w
    by_last (inl e) = at_last e
    by_last (inr no_) = absurd (false≢true no_)

    by_rest : (among t.between w ≡ true) ⊎ (among (t.last ∷ []) w ≡ true) → StandsIn trees t.first t.last w
    by_rest (inl h) = loosely (t.loose w h)
    by_rest (inr h) = by_last (first_or_more t.last w [] h)

    by : (t.first ≡ w) ⊎ (among (t.between ++ t.last ∷ []) w ≡ true) → StandsIn trees t.first t.last w
    by (inl e) = at_first e
    by (inr h) = by_rest (or_cases (among t.between w) (among (t.last ∷ []) w) (sym (list_any-append (λ z. z == w) t.between (t.last ∷ [])) ∙ h))

-- a wire that hangs nowhere is one of those of its walk that do so
in_loose : (trees : Trees) (ws : List ℕ) (w : ℕ) → pin_of trees w ≡ None → among ws w ≡ true → among (filter (λ w. not (is_hung trees w)) ws) w ≡ true
in_loose trees ws w loose is = any-filter_same (λ z. z == w) (λ z. not (is_hung trees z)) true
    (λ z e. (let s : z ≡ w = grind (arith, nat_tests, e) in ap (λ v. not (is_hung trees v)) s ∙ ap (λ o. not (is_some o)) loose)) ws ∙ is

abbrev tail_of : List ℕ → List ℕ
tail_of [] = []
tail_of (x ∷ xs) = xs

-- what is before the last of a list stands before its end
before_end : (xs ys zs : List ℕ) (l v w : ℕ) → among ys v ≡ true → xs ++ ys ≡ zs ++ l ∷ [] → among xs w ≡ true → among zs w ≡ true
before_end [] ys zs l v w some_ e is = absurd (false≢true is)
before_end (x ∷ xs) ys [] l v w some_ e is = absurd (nothing xs ys v some_ (ap (λ xs. tail_of xs) e))
  where
    nothing : (xs ys : List ℕ) (v : ℕ) → among ys v ≡ true → xs ++ ys ≡ [] → ⊥
    nothing xs ys v some_ e = false≢true (ap (λ zs. among zs v) (sym e) ∙ list_any-append (λ z. z == v) xs ys ∙ or_right (among xs v) (among ys v) some_)
before_end (x ∷ xs) ys (z ∷ zs) l v w some_ e is = by (first_or_more x w xs is) (before_end xs ys zs l v w some_ (ap (λ xs. tail_of xs) e))
  where
    same : x ≡ z
    same = ap (λ xs. get_or xs 0 0) e

    by : (x ≡ w) ⊎ (among xs w ≡ true) → (among xs w ≡ true → among zs w ≡ true) → among (z ∷ zs) w ≡ true
    by (inl s) more = or_left (z == w) (among zs w) (grind (arith, nat_tests, same, s))
    by (inr h) more = or_right (z == w) (among zs w) (more h)

-- what is behind the first of a list stands behind its beginning
behind_first : (xs ys zs : List ℕ) (z v w : ℕ) → among xs v ≡ true → xs ++ ys ≡ z ∷ zs → among ys w ≡ true → among zs w ≡ true
behind_first [] ys zs z v w some_ e is = absurd (false≢true some_)
behind_first (x ∷ xs) ys zs z v w some_ e is = ap (λ us. among us w) (sym (ap (λ us. tail_of us) e)) ∙ list_any-append (λ z. z == w) xs ys ∙ or_right (among xs w) (among ys w) is

-- A look at a forest and walks that branch from it, and one of the walks.
module _ {told : Option Faults} {rows : List Pins} (k : Kept) (trees : Trees) (ls : List Lead) (forest : IsForest trees) (branch : BranchFrom trees ls) (knows : KnowsLeads k trees ls)
    (look : IsLook told trees.shape (closes_along trees ls) rows) (f : Faults) (is : told ≡ Some f) (holds : HoldsFor k f) (i : ℕ) (d : Lead) (below : i < length ls) where
  abbrev pub l : Lead
  l = get_or ls i d

  lead : IsLead trees l
  lead = branch.walks i d below

  abbrev G : Configuration
  G = look.config

  to : trees.shape ≡ G.shape
  to = sym look.shape

  abbrev met : ℕ → Bool
  met = is_met trees ls

  met_hung : (w p : ℕ) → HangsOn trees w p → met w ≡ true
  met_hung w p h = or_left (is_hung trees w) (among (wires_of_leads ls) w) (ap (λ o. is_some o) h)

  met_along : (j w : ℕ) → j < length ls → among (wires_along (get_or ls j d)) w ≡ true → met w ≡ true
  met_along j w less on = or_right (is_hung trees w) (among (wires_of_leads ls) w) (stands_in (λ l. wires_along l) ls j w d less on)

  clear : (w : ℕ) → met w ≡ true → IsClear trees.shape f w
  clear w on = subst (λ m. IsClear m f w) (sym knows.keeps.shape) (holds.wires w (knows.wires w on))

  unshorted : (w u : ℕ) → met w ≡ true → met u ≡ true → w ≢ u → ¬ Shorted trees.shape f w u
  unshorted w u on also n = subst (λ m. ¬ Shorted m f w u) (sym knows.keeps.shape) (holds.pairs w u (knows.pairs w u on also n))

  from_below : l.from < pins_of trees.shape
  from_below = pin_below trees lead.first l.from forest lead.begins

  to_below : l.to < pins_of trees.shape
  to_below = pin_below trees lead.last l.to forest lead.ends

  laid_free : (x : ℕ) → is_laid trees x ≡ true → stuck_cross f x ≡ None
  laid_free x on = holds.crosses x (knows.keeps.crosses x on)

  laid_shut : (x : ℕ) → is_laid trees x ≡ true → closes_along trees ls x ≡ true
  laid_shut x on = or_left (is_laid trees x) (among (crosses_of_leads ls) x) on

  shut : (x : ℕ) → among (crosses_along l) x ≡ true → closes_along trees ls x ≡ true
  shut x on = or_right (is_laid trees x) (among (crosses_of_leads ls) x) (stands_in (λ l. crosses_along l) ls i x d below on)

  stands_on : (w p : ℕ) → HangsOn trees w p → Joined (net_of G.shape f (is_closed G)) (pin_wire G.shape p) w
  stands_on = standing look f is trees refl forest laid_free laid_shut

  -- the ends of a walk without a stuck crosspoint don't part
  pub free_arrives : ((x : ℕ) → among (crosses_along l) x ≡ true → stuck_cross f x ≡ None) → parts rows l.from l.to ≡ false
  free_arrives free = by (parts rows l.from l.to) refl
    where
      along : Joined (net_of G.shape f (is_closed G)) lead.first lead.last
      along = joined_along here (subst (λ m. LeadsTo m lead.first (crosses_along l) (wires_along l) lead.last) to lead.leads)
          (λ x on. conducting f G (stuck_cross f x) (is_closed G x) (look.closed x ∙ shut x on) (free x on)) lead.last (LeadsTo-end lead.leads)

      joined : Joined (net_of G.shape f (is_closed G)) (pin_wire G.shape l.from) (pin_wire G.shape l.to)
      joined = Joined-trans (stands_on lead.first l.from lead.begins) (Joined-trans along (Joined-sym (stands_on lead.last l.to lead.ends)))

      by : (t : Bool) → parts rows l.from l.to ≡ t → parts rows l.from l.to ≡ false
      by false e = e
      by true e = absurd (part_unjoined look f is l.from l.to from_below to_below e joined)

  -- One crosspoint of the walk is open.
  module _ (x : ℕ) (of : among (crosses_along l) x ≡ true) where
    c : IsCut trees.shape lead.first lead.last x (crosses_along l) (wires_along l)
    c = cut x lead.leads of

    p : IsParting ls i
    p = parting ls i below (record { own = branch.own; later = branch.later })

    abbrev on_other : ℕ → Bool
    on_other w = list_any (λ l. p.side l.from && among (wires_along l) w) ls

    -- a wire is behind it: by the pin on which it hangs, or by the walk in which it stands
    abbrev behind : ℕ → Bool
    behind w = option_map_or p.side (pin_of trees w) (among c.far_wires w || on_other w)

    hung_behind : (w q : ℕ) → HangsOn trees w q → behind w ≡ p.side q
    hung_behind w q h = ap (λ o. option_map_or p.side o (among c.far_wires w || on_other w)) h

    loose_behind : (w : ℕ) → pin_of trees w ≡ None → behind w ≡ (among c.far_wires w || on_other w)
    loose_behind w h = ap (λ o. option_map_or p.side o (among c.far_wires w || on_other w)) h

    -- a wire that hangs nowhere stands in one walk alone
    one_for : (j n w : ℕ) → j < length ls → n < length ls → pin_of trees w ≡ None → among (wires_along (get_or ls j d)) w ≡ true → among (wires_along (get_or ls n d)) w ≡ true → j ≡ n
    one_for j n w hj hn loose q r = one_walk (loose_along trees) ls j n w d branch.once hj hn (in_loose trees (wires_along (get_or ls j d)) w loose q) (in_loose trees (wires_along (get_or ls n d)) w loose r)

    -- whether it is on a walk behind is told by its own
    other_is : (j w : ℕ) → j < length ls → pin_of trees w ≡ None → among (wires_along (get_or ls j d)) w ≡ true → on_other w ≡ p.side (get_or ls j d).from
    other_is j w less loose on = by (p.side (get_or ls j d).from) refl (on_other w) refl
      where
        by_some : IsSome_of (λ l. p.side l.from && among (wires_along l) w) ls → p.side (get_or ls j d).from ≡ true
        by_some s = let two = and_parts (p.side (get_or ls s.place d).from) (among (wires_along (get_or ls s.place d)) w) (s.holds d) in
            subst (λ n. p.side (get_or ls n d).from ≡ true) (one_for s.place j w s.below less loose two.1 on) two.0

        by : (a : Bool) → p.side (get_or ls j d).from ≡ a → (b : Bool) → on_other w ≡ b → on_other w ≡ p.side (get_or ls j d).from
        by true e b q = list_any_at (λ l. p.side l.from && among (wires_along l) w) ls j d less (far_one (p.side (get_or ls j d).from) (among (wires_along (get_or ls j d)) w) e on) ∙ sym e
        by false e false q = q ∙ sym e
        by false e true q = absurd (false≢true (sym e ∙ by_some (some_of (λ l. p.side l.from && among (wires_along l) w) ls q)))

    far_in : (w : ℕ) → among c.far_wires w ≡ true → among (wires_along l) w ≡ true
    far_in w on = ap (λ ws. among ws w) c.wires ∙ list_any-append (λ z. z == w) c.near_wires c.far_wires ∙ or_right (among c.near_wires w) (among c.far_wires w) on

    near_in : (w : ℕ) → among c.near_wires w ≡ true → among (wires_along l) w ≡ true
    near_in w on = ap (λ ws. among ws w) c.wires ∙ list_any-append (λ z. z == w) c.near_wires c.far_wires ∙ or_left (among c.near_wires w) (among c.far_wires w) on

    false_by : (b : Bool) → (b ≡ true → ⊥) → b ≡ false
    false_by true n = absurd (n refl)
    false_by false n = refl

    -- the wires of another walk are on the side of its pins
    other_side : (j : ℕ) → j < length ls → j ≢ i → (w : ℕ) → among (wires_along (get_or ls j d)) w ≡ true → behind w ≡ p.side (get_or ls j d).from
    other_side j less n w on = by (stands t w on)
      where
        t : IsLead trees (get_or ls j d)
        t = branch.walks j d less

        by : StandsIn trees t.first t.last w → behind w ≡ p.side (get_or ls j d).from
        by (at_first e) = subst (λ v. behind v ≡ p.side (get_or ls j d).from) e (hung_behind t.first (get_or ls j d).from t.begins)
        by (at_last e) = subst (λ v. behind v ≡ p.side (get_or ls j d).from) e (hung_behind t.last (get_or ls j d).to t.ends ∙ sym (p.others j d less n))
        by (loosely h) = loose_behind w h ∙ ap (λ b. b || on_other w) (false_by (among c.far_wires w) (λ q. n (one_for j i w less below h on (far_in w q)))) ∙ other_is j w less h on

    -- what is before the crosspoint is on the near side ..
    near_side_of : (w : ℕ) → among c.near_wires w ≡ true → behind w ≡ false
    near_side_of w on = by (first_or_more lead.first w lead.between (before_end c.near_wires c.far_wires (lead.first ∷ lead.between) lead.last lead.last w (LeadsTo-end c.leads_on) (sym c.wires ∙ lead.wires) on))
      where
        apart_far : pin_of trees w ≡ None → among c.far_wires w ≡ true → ⊥
        apart_far loose q = distinct_apart (filter (λ w. not (is_hung trees w)) c.near_wires) (filter (λ w. not (is_hung trees w)) c.far_wires)
            (subst (IsDistinct (λ a b. a == b)) (ap (filter (λ w. not (is_hung trees w))) c.wires ∙ filter-append (λ w. not (is_hung trees w)) c.near_wires c.far_wires) (own_once (loose_along trees) ls i d branch.once below))
            w (in_loose trees c.near_wires w loose on) (in_loose trees c.far_wires w loose q)

        by : (lead.first ≡ w) ⊎ (among lead.between w ≡ true) → behind w ≡ false
        by (inl e) = subst (λ v. behind v ≡ false) e (hung_behind lead.first l.from lead.begins ∙ p.near d)
        by (inr h) = loose_behind w (lead.loose w h) ∙ ap (λ b. b || on_other w) (false_by (among c.far_wires w) (apart_far (lead.loose w h))) ∙ other_is i w below (lead.loose w h) (near_in w on) ∙ p.near d

    -- .. and what is behind it on the far side
    far_side_of : (w : ℕ) → among c.far_wires w ≡ true → behind w ≡ true
    far_side_of w on = by (or_cases (among lead.between w) (among (lead.last ∷ []) w) (sym (list_any-append (λ z. z == w) lead.between (lead.last ∷ []))
        ∙ behind_first c.near_wires c.far_wires (lead.between ++ lead.last ∷ []) lead.first lead.first w (LeadsTo-start c.leads) (sym c.wires ∙ lead.wires) on))
      where
        by_last : (lead.last ≡ w) ⊎ (among [] w ≡ true) → behind w ≡ true
        by_last (inl e) = subst (λ v. behind v ≡ true) e (hung_behind lead.last l.to lead.ends ∙ p.far d)
        by_last (inr no_) = absurd (false≢true no_)

        by : (among lead.between w ≡ true) ⊎ (among (lead.last ∷ []) w ≡ true) → behind w ≡ true
        by (inl h) = loose_behind w (lead.loose w h) ∙ or_left (among c.far_wires w) (on_other w) on
        by (inr h) = by_last (first_or_more lead.last w [] h)

    -- so each crosspoint that is still closed has both its ends on one side
    of_tree : (y : ℕ) → IsOfTree trees y → IsOnOne trees.shape met behind y
    of_tree y t = record {
      which = p.side t.pin;
      tap = record { inside = met_hung _ t.pin t.tap; at = hung_behind _ t.pin t.tap };
      line = record { inside = met_hung _ t.pin t.line; at = hung_behind _ t.pin t.line };
    }

    of_part : (b : Bool) (ws : List ℕ) → ((w : ℕ) → among ws w ≡ true → met w ≡ true) → ((w : ℕ) → among ws w ≡ true → behind w ≡ b) → (y : ℕ) → IsWithin trees.shape (among ws) y → IsOnOne trees.shape met behind y
    of_part b ws met_it on y t = record {
      which = b;
      tap = record { inside = met_it _ t.tap; at = on _ t.tap };
      line = record { inside = met_it _ t.line; at = on _ t.line };
    }

    of_walk : (y : ℕ) → (x ≡ y → ⊥) → (o : IsIn (λ l. crosses_along l) ls y) → Dec (o.place ≡ i) → IsOnOne trees.shape met behind y
    of_walk y other o (no n) = of_part (p.side (get_or ls o.place d).from) (wires_along (get_or ls o.place d)) (λ w on. met_along o.place w o.below on) (other_side o.place o.below n) y
        (LeadsTo-within (branch.walks o.place d o.below).leads y (o.has d))
    of_walk y other o (yes e) = by_part (or_cases (among c.before y) (among (x ∷ c.after) y) (sym (list_any-append (λ z. z == y) c.before (x ∷ c.after)) ∙ ap (λ xs. among xs y) (sym c.crosses) ∙ subst (λ j. among (crosses_along (get_or ls j d)) y ≡ true) e (o.has d)))
      where
        by_after : (x ≡ y) ⊎ (among c.after y ≡ true) → IsOnOne trees.shape met behind y
        by_after (inl s) = absurd (other s)
        by_after (inr h) = of_part true c.far_wires (λ w on. met_along i w below (far_in w on)) far_side_of y (LeadsTo-within c.leads_on y h)

        by_part : (among c.before y ≡ true) ⊎ (among (x ∷ c.after) y ≡ true) → IsOnOne trees.shape met behind y
        by_part (inl h) = of_part false c.near_wires (λ w on. met_along i w below (near_in w on)) near_side_of y (LeadsTo-within c.leads y h)
        by_part (inr h) = by_after (first_or_more x y c.after h)

    on_one : (y : ℕ) → is_closed (with_open G x) y ≡ true → IsOnOne trees.shape met behind y
    on_one y on = by (or_cases (is_laid trees y) (among (crosses_of_leads ls) y) (sym (look.closed y) ∙ closed_before G x y on))
      where
        by : (is_laid trees y ≡ true) ⊎ (among (crosses_of_leads ls) y ≡ true) → IsOnOne trees.shape met behind y
        by (inl h) = of_tree y (forest.crosses y h)
        by (inr h) = let o = is_in (λ l. crosses_along l) ls y h in of_walk y (λ e. open_again G x y e on) o (ℕ_discrete o.place i)

    groups : AreGroups G.shape f (is_closed (with_open G x)) (λ w. met w && not (behind w)) (λ w. met w && behind w)
    groups = subst (λ m. AreGroups m f (is_closed (with_open G x)) (λ w. met w && not (behind w)) (λ w. met w && behind w)) to
        (two_sides trees.shape f (is_closed (with_open G x)) met behind clear unshorted on_one)

    -- the pin of the first wire is on the near side, that of the last on the far one
    from_near : (met (pin_wire G.shape l.from) && not (behind (pin_wire G.shape l.from))) ≡ true
    from_near = subst (λ m. (met (pin_wire m l.from) && not (behind (pin_wire m l.from))) ≡ true) to
        (let root = root_hangs trees lead.first l.from forest lead.begins in near_one (met (pin_wire trees.shape l.from)) (behind (pin_wire trees.shape l.from)) (met_hung _ l.from root) (hung_behind _ l.from root ∙ p.near d))

    to_far : (met (pin_wire G.shape l.to) && behind (pin_wire G.shape l.to)) ≡ true
    to_far = subst (λ m. (met (pin_wire m l.to) && behind (pin_wire m l.to)) ≡ true) to
        (let root = root_hangs trees lead.last l.to forest lead.ends in far_one (met (pin_wire trees.shape l.to)) (behind (pin_wire trees.shape l.to)) (met_hung _ l.to root) (hung_behind _ l.to root ∙ p.far d))

    -- so they part where the crosspoint is stuck
    pub stuck_parts : (v : Bool) → stuck_cross f x ≡ Some v → parts rows l.from l.to ≡ true
    stuck_parts v e = by_cycles (subst (λ c. Runs c (drive ∷ []) (row ∷ [])) (cross_toggled f G x v e) (subst (λ h. IsRun f h (drive ∷ []) (row ∷ [])) (sym (closed_already G x (look.closed x ∙ shut x of))) (row_under look f is l.from from_below))).cycles
      where
        drive : Pins
        drive = one_driven (pins_of trees.shape) l.from

        row : Pins
        row = get_or rows (l.from + 1) []

        differs : get_or row l.from true ≡ false → get_or row l.to true ≡ true → parts rows l.from l.to ≡ true
        differs low high = list_any_at (λ row. differ (get_or row l.from true) (get_or row l.to true)) rows (l.from + 1) [] (let e = all_rows look f is in let b = from_below in omega (arith, e, b)) (unlike (get_or row l.from true) (get_or row l.to true) low high)

        by_cycles : {end : Outputs} → Cycles (circuit_of f (with_open G x)) (at_load (circuit_of f (with_open G x))) (drive ∷ []) (row ∷ []) end → parts rows l.from l.to ≡ true
        by_cycles (cycle q none) = differs
            (left_low f (with_open G x) look.off groups (quiet_load f (with_open G x) look.off) q l.from (subst (λ m. l.from < pins_of m) to from_below) from_near (one_low (pins_of trees.shape) l.from from_below))
            (right_high f (with_open G x) look.off groups (quiet_load f (with_open G x) look.off) q l.to (subst (λ m. l.to < pins_of m) to to_below) to_far
            (λ j low. subst (λ n. (met (pin_wire G.shape n) && not (behind (pin_wire G.shape n))) ≡ true) (sym (only_low (pins_of trees.shape) l.from j low)) from_near))

    pub free_where_arrives : parts rows l.from l.to ≡ false → stuck_cross f x ≡ None
    free_where_arrives alike = none_by (stuck_cross f x) (λ v e. false≢true (sym alike ∙ stuck_parts v e))
