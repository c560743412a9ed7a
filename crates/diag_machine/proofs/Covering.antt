-- A list of what isn't known or kept covers, and is tight: nothing on it both works and can be reached over what is free.
use Rattle.std.proofs.Common.{◌≡◌, ◌≢◌, ◌⊎◌, ◌<◌, ℕ, Bool, true, false, None, refl, sym, ◌∙◌, subst, inl, inr, arith, nat_eq}
use Rattle.std.specs.FinSet as set
use Rattle.diag_machine.proofs.Vocabulary.{false≢true, nat_tests, Kept, HoldsFor, IsMore, KnownWires, HasWire, IsKnown, IsKeptCrossOf}
use Rattle.diag_machine.proofs.Vocabulary.{AddsOnlyTableFacts, KeepsTable, IsListOf, IsReached}
use Rattle.machine_shape.specs.Vocabulary.{in_order, turned, ends_of, pin_wire, crosses_of, tables_of, IsNumbered}
use Rattle.machine_meaning.specs.Vocabulary.{Faults, stuck_cross, Shorted, Defects, Covers, IsSeated, IsFreeWireOf, IsFreeCrossOf, IsAlone, HasFeet, two, HasFreeFeet, IsRightTable, IsTight}
use Rattle.machine_meaning.proofs.Seats.{seated_also}
use Rattle.diag_evidence.proofs.KeptLemmas.{pair_apart}
use Rattle.diag_machine.proofs.Knowing.{known_wire, known_within}

same_or_not : (w u : ℕ) → (w ≡ u) ⊎ (w ≢ u)
same_or_not w u = by (nat_eq w u) refl
  where
    by : (b : Bool) → nat_eq w u ≡ b → (w ≡ u) ⊎ (w ≢ u)
    by true e = inl (grind (arith, nat_tests))
    by false e = inr (λ s. grind (arith, nat_tests))

-- The wires are known by one proof, and what is listed is what isn't kept by a later one.
module _ {k l : Kept} {known : KnownWires} {f : Faults} {d : Defects} (is : IsKnown k known) (more : IsMore k l) (holds : HoldsFor l f)
    (list : IsListOf k.shape l known.steps d) where
  apart : (w u : ℕ) → HasWire known.steps w → HasWire known.steps u → Shorted k.shape f w u → w ≡ u
  apart w u h g s = by (same_or_not w u)
    where
      by : (w ≡ u) ⊎ (w ≢ u) → w ≡ u
      by (inl e) = e
      by (inr n) = absurd (holds.pairs w u (pair_apart l w u n (more.apart w (is.of_set w h)) (more.apart u (is.of_set u g))) (subst (λ m. Shorted m f w u) (sym more.shape) s))

  pub covers : Covers k.shape d f
  covers = record {
    crosses = λ x h free. holds.crosses x (list.cross_free x h free);
    cells = λ t a h b free. holds.cells t a ((list.table_free t h free).cells a b);
    registers = λ t h free. holds.registers t ((list.table_free t h free).register);
    wires = λ w h free u s. holds.wires w (more.wires w (known_wire is w (list.wire_free w h free))) u (subst (λ m. Shorted m f w u) (sym more.shape) s);
    pairs = λ w u h g free also s. apart w u (list.wire_free w h free) (list.wire_free u g also) s;
  }

module _ {k l : Kept} {known : KnownWires} {f : Faults} {d : Defects} (numbered : IsNumbered k.shape) (is : IsKnown k known) (reached : IsReached k f (HasWire known.steps)) (only : AddsOnlyTableFacts k l)
    (tables : (t : ℕ) → t < tables_of k.shape → IsSeated k.shape (HasWire known.steps) (IsKeptCrossOf k) t → IsRightTable f t → KeepsTable l t) (list : IsListOf k.shape l known.steps d) where
  free_of : (w : ℕ) → HasWire known.steps w → IsFreeWireOf k.shape d w
  free_of w h = let below = known_within is numbered w h in (below, list.wire_listed w below h)

  known_of : (w : ℕ) → IsFreeWireOf k.shape d w → HasWire known.steps w
  known_of w h = list.wire_free w h.0 h.1

  alone : (w : ℕ) → IsAlone k.shape f (IsFreeWireOf k.shape d) w → IsAlone k.shape f (HasWire known.steps) w
  alone w a u h = a u (free_of u h)

  feet : (w : ℕ) → HasFreeFeet k.shape d f w → HasFeet k.shape f (λ x. x < crosses_of k.shape) (HasWire known.steps) w
  feet w (two x y a b cx cy ex ey differ fa fb sx sy) = two x y a b cx cy ex ey differ (known_of a fa) (known_of b fb) sx sy

  unlisted : (x : ℕ) → x < crosses_of k.shape → set.contains d.crosses x ≡ true → stuck_cross f x ≡ None → ⊥
  unlisted x h on unstuck =
      let c = list.cross_listed x h on in
      let tap = list.wire_free (ends_of k.shape x).0 (numbered.ends x _ _ h (in_order refl refl)) c.1 in
      let line = list.wire_free (ends_of k.shape x).1 (numbered.ends x _ _ h (turned refl refl)) c.2 in
      false≢true (sym c.0 ∙ only.crosses x ∙ reached.crosses x h tap line unstuck)

  seated : (t : ℕ) → IsSeated k.shape (IsFreeWireOf k.shape d) (IsFreeCrossOf k.shape d) t → IsSeated k.shape (HasWire known.steps) (IsKeptCrossOf k) t
  seated t s = seated_also k.shape (IsFreeWireOf k.shape d) (HasWire known.steps) (IsFreeCrossOf k.shape d) (IsKeptCrossOf k) known_of
      (λ x a b free at p q. (free.0, sym (only.crosses x) ∙ list.cross_free x free.0 free.1)) t s

  pub tight : IsTight k.shape d f
  tight = record {
    pins = λ i h clear a. (free_of (pin_wire k.shape i) (reached.pins i h clear (alone (pin_wire k.shape i) a))).1;
    wires = λ w h clear a on. (free_of w (reached.wires w h clear (alone w a) (feet w on))).1;
    crosses = λ x h on unstuck. unlisted x h on unstuck;
    tables = λ t h on s right. (list.table_listed t h on).0 (tables t h (seated t s) right);
  }
