-- What is left of a field once the crosspoints are taken out that growth needs no more.
use Rattle.std.specs.Prelude.{◌≡◌, ◌⊎◌, ℕ, true, List, length}
use Rattle.base_bits.specs.Numbers.{has_number}
use Rattle.machine_shape.specs.Shape.{ends_of}
use Rattle.diag_evidence.specs.Kept.{Kept, keeps_cross}
use Rattle.diag_known.specs.Known.{HasWire}
use Rattle.diag_known.specs.declared.{field.Field.Field, verified_wire.VerifiedWire.VerifiedWire}

-- the crosspoint is kept, and both its ends are known
pub record IsDone (k : Kept) (ss : List VerifiedWire) (x : ℕ) : Type 0 where
  pub kept : keeps_cross k x ≡ true
  pub tap : HasWire ss (ends_of k.shape x).0
  pub line : HasWire ss (ends_of k.shape x).1

-- the wires of the field, and of its crosspoints all but some that are so
pub record IsRest (k : Kept) (ss : List VerifiedWire) (a rest : Field) : Type 0 where
  pub wires : rest.wires ≡ a.wires
  pub len : length rest.crosses ≡ length a.crosses
  pub only : (x : ℕ) → has_number rest.crosses x ≡ true → has_number a.crosses x ≡ true
  pub whole : (x : ℕ) → has_number a.crosses x ≡ true → (has_number rest.crosses x ≡ true) ⊎ IsDone k ss x
