-- Which of some wires stand by kept crosspoints, as they are found one after the other.
use Rattle.std.specs.Prelude.{◌≡◌, ◌≢◌, ◌⊎◌, ℕ, ◌+◌, ◌<◌, ◌≤◌, Bool, true, false, Option, Some, None, List}
use Rattle.std.specs.Prelude.{length, slice_index_or}
use Rattle.base_bits.specs.Numbers.{has_number, size_of}
use Rattle.machine_shape.specs.{declared.Shape.Shape, Shape.Ends, Shape.ends_of, Shape.crosses_of, Shape.wires_of}
use Rattle.diag_evidence.specs.Kept.{Kept, is_apart, keeps_cross, keeps_wire, keeps_pair}
use Rattle.diag_known.specs.Known.{KnownWires, IsAt, HasWire, IsKnown, InSet}
use Rattle.diag_known.specs.declared.verified_wire.VerifiedWire.{VerifiedWire}
use Rattle.diag_known.specs.declared.verified_wire.Support.{Support}

-- the crosspoint leads from the one wire to the other
pub record IsBetween (m : Shape) (x u w : ℕ) : Type 0 where
  pub within : x < crosses_of m
  pub at : Ends (ends_of m x) u w

-- the foot that was found of a wire
abbrev pub foot_at : List (Option Support) → ℕ → Option Support
foot_at feet w = slice_index_or feet w None

-- a kept crosspoint leads from the wire to one that stands
pub record IsFootTo (k : Kept) (ss : List VerifiedWire) (w : ℕ) (a : Support) : Type 0 where
  pub between : IsBetween k.shape a.cross.0 a.wire.0 w
  pub kept : keeps_cross k a.cross.0 ≡ true
  pub stands : HasWire ss a.wire.0

-- Some wires stand, others are left; all are kept and of the set, and so each one that is left is kept apart from all others. Of some
-- that are left a foot was found.
pub record IsGround (k : Kept) (n : KnownWires) (left : List Bool) (feet : List (Option Support)) : Type 0 where
  pub known : IsKnown k n
  pub len : length left ≡ wires_of k.shape
  pub room : length feet ≡ wires_of k.shape
  pub fresh : (w : ℕ) → InSet left w → ¬ HasWire n.steps w
  pub kept : (w : ℕ) → InSet left w → keeps_wire k w ≡ true
  pub of_set : (w : ℕ) → InSet left w → is_apart k w ≡ true
  pub pairs : (w u : ℕ) → InSet left w → InSet left u ⊎ HasWire n.steps u → u ≢ w → keeps_pair k u w ≡ true
  pub found : (w : ℕ) (a : Support) → foot_at feet w ≡ Some a → IsFootTo k n.steps w a

-- the wire isn't left, or the foot that was found of it leads to this one
abbrev pub IsSettled : List Bool → List (Option Support) → ℕ → ℕ → Type 0
IsSettled left feet w u = (has_number left w ≡ false) ⊎ ((a : Support) × (foot_at feet w ≡ Some a) × (a.wire.0 ≡ u))

-- What stood still stands, where it stood, and what was settled is; what stands now did so before or was left, and what was left stands
-- or is left.
pub record Founds (n m : KnownWires) (left rest : List Bool) (feet more : List (Option Support)) : Type 0 where
  pub stays : (i w : ℕ) → IsAt n.steps i w → IsAt m.steps i w
  pub settled : (w u : ℕ) → IsSettled left feet w u → IsSettled rest more w u
  pub from : (w : ℕ) → HasWire m.steps w → HasWire n.steps w ⊎ InSet left w
  pub whole : (w : ℕ) → InSet left w → HasWire m.steps w ⊎ InSet rest w
  pub less : (w : ℕ) → InSet rest w → InSet left w
  pub grows : length n.steps ≤ length m.steps
  pub count : size_of rest + length m.steps ≡ size_of left + length n.steps
