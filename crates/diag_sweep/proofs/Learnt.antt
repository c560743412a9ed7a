-- Wires that come to be known.
use Rattle.std.proofs.Common.{◌≡◌, ◌≢◌, ◌⊎◌, ℕ, ◌<◌, true, List, [], ◌∷◌, ◌++◌, length, refl, sym, ap, ◌∙◌, subst, inl, inr, slice_get, Some, Result, Ok, Err, OnOk, OnErr}
use Rattle.diag_sweep.proofs.Vocabulary.{has_number, pins_of, pin_wire, Kept, Field, VerifiedWire, learnt}
use Rattle.diag_known.specs.Vocabulary.{KnownWires, HasWire, IsFoot, IsGood, IsKnown, Stands, on_pin, on_feet, GrowsIn}
use Rattle.diag_known.specs.declared.verified_wire.Support.{Support}
use Rattle.diag_known.specs.declared.verified_wire.SupportedBy.TheVariants as stand
use Rattle.diag_known.proofs.Places.{get_pushed, has_later}
use Rattle.diag_sweep.proofs.Going.{grows_itself}

-- one step more
has_pushed : {ss : List VerifiedWire} (s : VerifiedWire) (w : ℕ) → HasWire (ss ++ s ∷ []) w → HasWire ss w ⊎ (s.wire.0 ≡ w)
has_pushed {ss} s w has = by (get_pushed ss s has.place has.at.step has.at.here)
  where
    by : (slice_get ss has.place ≡ Some has.at.step) ⊎ ((has.place ≡ length ss) × (s ≡ has.at.step)) → HasWire ss w ⊎ (s.wire.0 ≡ w)
    by (inl h) = inl (record { place = has.place; at = record { step = has.at.step; here = h; wire = has.at.wire } })
    by (inr h) = inr (ap (λ (t : VerifiedWire). t.wire.0) h.1 ∙ has.at.wire)

pub grows_one : {a : Field} {ss : List VerifiedWire} (s : VerifiedWire) → has_number a.wires s.wire.0 ≡ true → GrowsIn a ss (ss ++ s ∷ [])
grows_one {a} {ss} s on = record { stays = λ w has. has_later (s ∷ []) has; within = λ w has. by w (has_pushed s w has) }
  where
    by : (w : ℕ) → HasWire ss w ⊎ (s.wire.0 ≡ w) → HasWire ss w ⊎ (has_number a.wires w ≡ true)
    by w (inl has) = inl has
    by w (inr e) = inr (subst (λ v. has_number a.wires v ≡ true) e on)

-- a wire that was learnt, or none
pub learnt_known : {T E : Type 0} {k : Kept} {old new : KnownWires} {s : VerifiedWire} (r : Result T E) → OnOk r (new.steps ≡ old.steps ++ s ∷ []) → OnErr r (new ≡ old) → new.shape ≡ old.shape → IsKnown k old → IsGood k old.steps s.wire.0 →
    Stands k old.steps (length old.steps) s.wire.0 s.stand → IsKnown k new
learnt_known (Ok v) steps same shape is good stands = learnt is good stands shape steps
learnt_known {k = k} (Err e) steps same shape is good stands = subst (IsKnown k) (sym same) is

pub learnt_grows : {T E : Type 0} {a : Field} (old new : KnownWires) (s : VerifiedWire) (r : Result T E) → OnOk r (new.steps ≡ old.steps ++ s ∷ []) → OnErr r (new ≡ old) → has_number a.wires s.wire.0 ≡ true → GrowsIn a old.steps new.steps
learnt_grows {a = a} old new s (Ok v) steps same on = subst (GrowsIn a old.steps) (sym steps) (grows_one s on)
learnt_grows {a = a} old new s (Err e) steps same on = subst (λ (n : KnownWires). GrowsIn a old.steps n.steps) (sym same) (grows_itself a old.steps)

pub stands_on_feet : {k : Kept} {ss : List VerifiedWire} {w : ℕ} (f g : Support) → IsFoot k ss (length ss) w f → IsFoot k ss (length ss) w g → f.wire.0 ≢ g.wire.0 → Stands k ss (length ss) w (stand.Feet f g)
stands_on_feet f g a b differ = on_feet a b differ

pub stands_on_pin : {k : Kept} {ss : List VerifiedWire} {w pin : ℕ} → pin < pins_of k.shape → w ≡ pin_wire k.shape pin → Stands k ss (length ss) w (stand.Pin pin)
stands_on_pin within e = on_pin within e
