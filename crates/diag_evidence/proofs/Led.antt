-- What walks gain and mark, one walk after the other, and that it is true.
use Rattle.std.proofs.Common.{◌≡◌, ◌≢◌, ◌⊎◌, inl, inr, ℕ, ◌<◌, ◌+◌, Bool, true, false, not, ◌&&◌, ◌||◌, Some, None, Option, List, [], ◌∷◌, length, get_or, take, refl, sym, ap, ◌∙◌, subst, arith, ◌==◌, slice_set}
use Rattle.std.proofs.lemmas.Bool.{false≢true, and_parts, or_cases}
use Rattle.diag_evidence.proofs.Vocabulary.{list_any_more, has_number, Pins, Faults, stuck_cross, among, Lead}
use Rattle.diag_evidence.specs.Vocabulary.{Kept, Gains, HoldsFor, keeps_cross, Trees, IsForest, IsLook, parts, BranchFrom, KnowsLeads, MarksStuck, StuckIf, arrives, closes_along, crosses_along, led_over, held_up_at, is_only_unkept, these_crosses}
use Rattle.diag_evidence.proofs.KeptLemmas.{GainHoldsFor, held_before, mark_set, or_swapped}
use Rattle.diag_evidence.proofs.Found.{IsSome_of, some_of}
use Rattle.diag_evidence.proofs.Branching.{free_arrives, free_where_arrives}
use Rattle.diag_evidence.proofs.Leading.{not_true}
use Rattle.diag_evidence.proofs.Only.{IsOnly, only_of, only_is, gains_then}

pub gains_same : {p q : ℕ → Bool} {a b : Kept} → Gains (these_crosses p) a b → ((x : ℕ) → q x ≡ p x) → Gains (these_crosses q) a b
gains_same {a = a} g same = record {
  shape = g.shape;
  crosses = λ x. g.crosses x ∙ ap (λ t. t || keeps_cross a x) (sym (same x));
  wires = g.wires;
  apart = g.apart;
  trial = g.trial;
  row = g.row;
  cells = g.cells;
  registers = g.registers;
}

turned : (x y : Bool) → (x || y) ≡ (y || x)
turned true true = refl
turned true false = refl
turned false true = refl
turned false false = refl

or_none : (x y : Bool) → y ≡ false → (x || y) ≡ x
or_none true y e = refl
or_none false y e = e

module _ (rows : List Pins) (ls : List Lead) (k : ℕ) (l : Lead) (below : k < length ls) (at : l ≡ get_or ls k l) where
  led_more : (x : ℕ) → led_over rows (take (k + 1) ls) x ≡ (led_over rows (take k ls) x || (arrives rows l && among (crosses_along l) x))
  led_more x = list_any_more (λ l. arrives rows l && among (crosses_along l) x) ls k l below ∙ ap (λ (m : Lead). led_over rows (take k ls) x || (arrives rows m && among (crosses_along m) x)) (sym at)

  held_more : (p : Kept) (x : ℕ) → held_up_at p rows (take (k + 1) ls) x ≡ (held_up_at p rows (take k ls) x || (not (arrives rows l) && is_only_unkept p (crosses_along l) x))
  held_more p x = list_any_more (λ l. not (arrives rows l) && is_only_unkept p (crosses_along l) x) ls k l below
      ∙ ap (λ (m : Lead). held_up_at p rows (take k ls) x || (not (arrives rows m) && is_only_unkept p (crosses_along m) x)) (sym at)

  pub led_on : {a b c : Kept} → parts rows l.from l.to ≡ false → Gains (these_crosses (led_over rows (take k ls))) a b → Gains (these_crosses (among (crosses_along l))) b c → Gains (these_crosses (led_over rows (take (k + 1) ls))) a c
  led_on low g h = gains_then g h (λ x. led_more x ∙ ap (λ t. led_over rows (take k ls) x || (not t && among (crosses_along l) x)) low ∙ turned (led_over rows (take k ls) x) (among (crosses_along l) x))

  pub led_not : {a b : Kept} → parts rows l.from l.to ≡ true → Gains (these_crosses (led_over rows (take k ls))) a b → Gains (these_crosses (led_over rows (take (k + 1) ls))) a b
  led_not high g = gains_same g (λ x. led_more x ∙ ap (λ t. led_over rows (take k ls) x || (not t && among (crosses_along l) x)) high ∙ or_none (led_over rows (take k ls) x) false refl)

  module _ (p : Kept) (now was : List Bool) (marks : (x : ℕ) → has_number now x ≡ (held_up_at p rows (take k ls) x || has_number was x)) where
    pub held_not : parts rows l.from l.to ≡ false → (x : ℕ) → has_number now x ≡ (held_up_at p rows (take (k + 1) ls) x || has_number was x)
    held_not low x = marks x ∙ ap (λ t. t || has_number was x) (sym (held_more p x ∙ ap (λ t. held_up_at p rows (take k ls) x || (not (not t) && is_only_unkept p (crosses_along l) x)) low ∙ or_none (held_up_at p rows (take k ls) x) false refl))

    pub held_none : parts rows l.from l.to ≡ true → ((x : ℕ) → is_only_unkept p (crosses_along l) x ≡ false) → (x : ℕ) → has_number now x ≡ (held_up_at p rows (take (k + 1) ls) x || has_number was x)
    held_none high none x = marks x ∙ ap (λ t. t || has_number was x) (sym (held_more p x ∙ ap (λ t. held_up_at p rows (take k ls) x || (not (not t) && is_only_unkept p (crosses_along l) x)) high ∙ or_none (held_up_at p rows (take k ls) x) _ (none x)))

    pub held_one : parts rows l.from l.to ≡ true → (c : ℕ) → is_only_unkept p (crosses_along l) c ≡ true → c < length now → (x : ℕ) → has_number (slice_set now c true) x ≡ (held_up_at p rows (take (k + 1) ls) x || has_number was x)
    held_one high c only within x =
        mark_set now c x within ∙ ap (λ t. (c == x) || t) (marks x) ∙ or_swapped (c == x) (held_up_at p rows (take k ls) x) (has_number was x)
        ∙ ap (λ t. t || has_number was x) (sym (held_more p x ∙ ap (λ t. held_up_at p rows (take k ls) x || (not (not t) && is_only_unkept p (crosses_along l) x)) high ∙ ap (λ t. held_up_at p rows (take k ls) x || t) (only_is p (crosses_along l) c x only)))

-- a walk of the list, to name one beyond it by
first_of : (ls : List Lead) (k : ℕ) → k < length ls → Lead
first_of [] k below = absurd (omega arith)
first_of (l ∷ ls) k below = l

or_true : (a b : Bool) → b ≡ true → (a || b) ≡ true
or_true true b e = refl
or_true false b e = e

not_not_true : (b : Bool) → not (not b) ≡ true → b ≡ true
not_not_true true e = refl
not_not_true false e = absurd (false≢true e)

module _ (told : Option Faults) (k : Kept) (trees : Trees) (rows : List Pins) (ls : List Lead) (forest : IsForest trees) (branch : BranchFrom trees ls) (knows : KnowsLeads k trees ls)
    (look : IsLook told trees.shape (closes_along trees ls) rows) where
  -- the crosspoints of walks that arrive aren't stuck
  pub led_holds : (f : Faults) → told ≡ Some f → HoldsFor k f → GainHoldsFor k (these_crosses (led_over rows ls)) f
  led_holds f is holds = record {
    crosses = λ x on. by x (some_of (λ l. arrives rows l && among (crosses_along l) x) ls on);
    wires = λ w on. absurd (false≢true on);
    joined = λ a b on. absurd (false≢true on);
    joins = λ a b on. absurd (false≢true on);
    row = λ a b t on. absurd (false≢true on);
    cells = λ u a on. absurd (false≢true on);
    registers = λ u on. absurd (false≢true on);
  }
    where
      by : (x : ℕ) → IsSome_of (λ l. arrives rows l && among (crosses_along l) x) ls → stuck_cross f x ≡ None
      by x s =
          let d : Lead = first_of ls s.place s.below in
          let both = and_parts (arrives rows (get_or ls s.place d)) (among (crosses_along (get_or ls s.place d)) x) (s.holds d) in
          free_where_arrives k trees ls forest branch knows look f is holds s.place d s.below x both.1 (not_true _ both.0)

  -- and those at which one is held up are
  held_up_stuck : (f : Faults) → told ≡ Some f → HoldsFor k f → (x : ℕ) → held_up_at k rows ls x ≡ true → stuck_cross f x ≢ None
  held_up_stuck f same held x up = of_walk (some_of (λ l. not (arrives rows l) && is_only_unkept k (crosses_along l) x) ls up)
    where
      of_walk : IsSome_of (λ l. not (arrives rows l) && is_only_unkept k (crosses_along l) x) ls → stuck_cross f x ≢ None
      of_walk s free =
          let d : Lead = first_of ls s.place s.below in
          let both = and_parts (not (arrives rows (get_or ls s.place d))) (is_only_unkept k (crosses_along (get_or ls s.place d)) x) (s.holds d) in
          let only = only_of k (crosses_along (get_or ls s.place d)) x both.1 in
          false≢true (sym (free_arrives k trees ls forest branch knows look f same held s.place d s.below (λ y h. by_other (only.others y h) free)) ∙ not_not_true _ both.0)
        where
          by_other : {y : ℕ} → (y ≡ x) ⊎ (keeps_cross k y ≡ true) → stuck_cross f x ≡ None → stuck_cross f y ≡ None
          by_other (inl e) free = subst (λ z. stuck_cross f z ≡ None) (sym e) free
          by_other {y} (inr h) free = held.crosses y h

  -- so the newly marked ones are
  pub newly_stuck : (was is : List Bool) → ((x : ℕ) → has_number is x ≡ (held_up_at k rows ls x || has_number was x)) → MarksStuck told k was is
  newly_stuck was is marks f same holds x off on = by (or_cases (held_up_at k rows ls x) (has_number was x) (sym (marks x) ∙ on))
    where
      by : (held_up_at k rows ls x ≡ true) ⊎ (has_number was x ≡ true) → stuck_cross f x ≢ None
      by (inl h) = held_up_stuck f same holds x h
      by (inr h) = absurd (false≢true (sym off ∙ h))

  -- and all, where the older ones are
  pub marked_stuck : (was is : List Bool) (l : Kept) → Gains (these_crosses (led_over rows ls)) k l → ((x : ℕ) → has_number is x ≡ (held_up_at k rows ls x || has_number was x)) → StuckIf told k was → StuckIf told l is
  marked_stuck was is l gains marks before f same holds x on = by (or_cases (held_up_at k rows ls x) (has_number was x) (sym (marks x) ∙ on))
    where
      held : HoldsFor k f
      held = held_before (these_crosses (led_over rows ls)) k l f gains holds

      by : (held_up_at k rows ls x ≡ true) ⊎ (has_number was x ≡ true) → stuck_cross f x ≢ None
      by (inl h) = held_up_stuck f same held x h
      by (inr h) = before f same held x h
