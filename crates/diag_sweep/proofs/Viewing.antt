-- What a look leaves in which wires hang over one crosspoint each.
use Rattle.std.proofs.Common.{◌≡◌, ◌⊎◌, ℕ, suc, Bool, true, false, ◌&&◌, Result, Ok, Err, List, [], ◌∷◌, length, sym, ◌∙◌, subst, inl, inr, arith, All, OnOk, OnErr, ◌==◌, map}
use Rattle.diag_sweep.proofs.Vocabulary.{IsDistinct, list_any, false≢true, or_cases, and_parts, has_number, Field, MarksSome}
use Rattle.diag_evidence.specs.Vocabulary.{Trees, AreFeet, Foot, HasMarked, IsFoot, StayMarked, is_unfit_in, is_unclear_in, pin_at}
use Rattle.diag_sweep.proofs.HungOn.{IsNewOf, equal, new_same}

-- wires that are of a field
abbrev AreOf : Field → List Foot → Type 0
AreOf a feet = All (λ foot. has_number a.wires foot.0.0 ≡ true) feet

-- a wire of a foot
wire_of_field : (a : Field) (q : Foot → Bool) (w : ℕ) (feet : List Foot) → AreOf a feet → list_any (λ foot. (foot.0.0 == w) && q foot) feet ≡ true → has_number a.wires w ≡ true
wire_of_field a q w [] all on = absurd (false≢true on)
wire_of_field a q w (h ∷ hs) all on =
    by (wire_of_field a q w hs (λ i d below. all (suc i) d (omega (arith, below)))) (or_cases ((h.0.0 == w) && q h) (list_any (λ foot. (foot.0.0 == w) && q foot) hs) on)
  where
    by : (list_any (λ foot. (foot.0.0 == w) && q foot) hs ≡ true → has_number a.wires w ≡ true) →
        (((h.0.0 == w) && q h) ≡ true) ⊎ (list_any (λ foot. (foot.0.0 == w) && q foot) hs ≡ true) → has_number a.wires w ≡ true
    by more (inl e) = subst (λ n. has_number a.wires n ≡ true) (equal ((and_parts (h.0.0 == w) (q h) e).0)) (all 0 h (omega arith))
    by more (inr is) = more is

one_unfit : (a : Field) (feet : List Foot) → AreOf a feet → {trees : Trees} {rows : List (List Bool)} {was is were are : List Bool} → HasMarked trees feet rows was is were are → IsNewOf a was is
one_unfit a feet of {trees} {rows} {was} m w on = by (or_cases (is_unfit_in trees feet rows w) (has_number was w) (sym (m.unfit w) ∙ on))
  where
    by : (is_unfit_in trees feet rows w ≡ true) ⊎ (has_number was w ≡ true) → (has_number was w ≡ true) ⊎ (has_number a.wires w ≡ true)
    by (inl new) = inr (wire_of_field a _ w feet of new)
    by (inr old) = inl old

one_unclear : (a : Field) (feet : List Foot) → AreOf a feet → {trees : Trees} {rows : List (List Bool)} {was is were are : List Bool} → HasMarked trees feet rows was is were are → IsNewOf a were are
one_unclear a feet of {trees} {rows} {were = were} m w on = by (or_cases (is_unclear_in trees feet rows w) (has_number were w) (sym (m.unclear w) ∙ on))
  where
    by : (is_unclear_in trees feet rows w ≡ true) ⊎ (has_number were w ≡ true) → (has_number were w ≡ true) ⊎ (has_number a.wires w ≡ true)
    by (inl new) = inr (wire_of_field a _ w feet of new)
    by (inr old) = inl old

-- new marks are of the field
pub told_unfit : (a : Field) (trees : Trees) (feet : List Foot) (rows : List (List Bool)) (was is were are : List Bool) {T E : Type 0} (r : Result T E) → All (λ foot. has_number a.wires foot.0.0 ≡ true) feet → length is ≡ length was → StayMarked was is →
    OnOk r (HasMarked trees feet rows was is were are) → OnErr r (is ≡ was) → MarksSome (λ w. has_number a.wires w ≡ true) was is
told_unfit a trees feet rows was is were are (Ok v) of len stay shows same = record { len = len; stays = stay; within = one_unfit a feet of shows }
told_unfit a trees feet rows was is were are (Err e) of len stay shows same = record { len = len; stays = stay; within = new_same a was is same }

pub told_unclear : (a : Field) (trees : Trees) (feet : List Foot) (rows : List (List Bool)) (was is were are : List Bool) {T E : Type 0} (r : Result T E) → All (λ foot. has_number a.wires foot.0.0 ≡ true) feet → length are ≡ length were → StayMarked were are →
    OnOk r (HasMarked trees feet rows was is were are) → OnErr r (are ≡ were) → MarksSome (λ w. has_number a.wires w ≡ true) were are
told_unclear a trees feet rows was is were are (Ok v) of len stay shows same = record { len = len; stays = stay; within = one_unclear a feet of shows }
told_unclear a trees feet rows was is were are (Err e) of len stay shows same = record { len = len; stays = stay; within = new_same a were are same }

-- wires that may be hung together
pub feet_fit : {trees : Trees} (feet : List Foot) {pins wires : List ℕ} → All (IsFoot trees) feet → pins ≡ map (pin_at trees) feet → IsDistinct (λ a b. a == b) pins → wires ≡ map (λ foot. foot.0.0) feet → IsDistinct (λ a b. a == b) wires → AreFeet trees feet
feet_fit feet each at apart named differ = record {
  each = each;
  wires = subst (λ ns. IsDistinct (λ a b. a == b) ns) named differ;
  pins = subst (λ ns. IsDistinct (λ a b. a == b) ns) at apart;
}
