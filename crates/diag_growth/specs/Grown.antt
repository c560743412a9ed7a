-- What growth has found so far.
use Rattle.std.specs.Prelude.{◌≡◌, ◌≢◌, ◌⊎◌, ℕ, Bool, true, Option, List, [], ◌∷◌, ◌++◌}
use Rattle.base_bits.specs.Numbers.{has_number}
use Rattle.machine_meaning.specs.Faults.{Faults}
use Rattle.diag_evidence.specs.Kept.{Kept}
use Rattle.diag_known.specs.Vocabulary.{KnownWires, IsBefore, HasWire, AreLost, IsInField, IsKeptUnlessStuck}
use Rattle.diag_known.specs.declared.{field.Field.Field, verified_wire.VerifiedWire.VerifiedWire}

-- one more wire is known, this one
pub record IsLearnt (old new : KnownWires) (s : VerifiedWire) : Type 0 where
  pub shape : new.shape ≡ old.shape
  pub steps : new.steps ≡ old.steps ++ s ∷ []

-- .. or none
pub record IsOneMore (old new : KnownWires) (w : ℕ) : Type 0 where
  pub shape : new.shape ≡ old.shape
  pub steps : (new.steps ≡ old.steps) ⊎ ((s : VerifiedWire) × (s.wire.0 ≡ w) × (new.steps ≡ old.steps ++ s ∷ []))

-- Of the first n known wires: a crosspoint of the field between two of them is kept, unless it is stuck; and of a wire that isn't barred
-- and not known no two crosspoints of the field to two of them are both unstuck, unless the wire isn't fit.
pub record IsGrown (told : Option Faults) (k : Kept) (a : Field) (ss : List VerifiedWire) (barred : List Bool) (n : ℕ) : Type 0 where
  pub between : (x u w : ℕ) → IsInField k.shape a x u w → u ≢ w → IsBefore ss n u → IsBefore ss n w → IsKeptUnlessStuck told k x
  pub seconds : (w x y u v : ℕ) → IsInField k.shape a x u w → IsInField k.shape a y v w → u ≢ v → IsBefore ss n u → IsBefore ss n v →
      HasWire ss w ⊎ ((has_number barred w ≡ true) ⊎ AreLost told k ss w x y)
