-- What growth may look at, and when it has found all that can be found there.
use Rattle.std.specs.Prelude.{◌≡◌, ◌⊎◌, ℕ, zero, suc, ◌+◌, ◌*◌, ◌<◌, ◌≤◌, Bool, true, not, ◌&&◌, Option, Some, None, List, length}
use Rattle.std.specs.Prelude.{if◌then◌else◌}
use Rattle.base_bits.specs.Numbers.{has_number, size_of}
use Rattle.machine_shape.specs.{declared.Shape.Shape, Shape.wires_of, Shape.crosses_of, Shape.pins_of, Shape.pin_wire, Shape.ends_of}
use Rattle.machine_meaning.specs.Vocabulary.{Faults, IsFaultless, stuck_cross, IsClear, IsAlone, HasFeet}
use Rattle.diag_evidence.specs.Kept.{Kept, HoldsFor, HoldsUntried, keeps_cross}
use Rattle.diag_known.specs.{Known.HasWire, declared.verified_wire.VerifiedWire.VerifiedWire, declared.field.Field.Field}

-- a field of this shape: marks of wires and of crosspoints
pub record IsFieldOf (m : Shape) (a : Field) : Type 0 where
  pub wires : length a.wires ≡ wires_of m
  pub crosses : length a.crosses ≡ crosses_of m

-- Nothing more can be found: a wire of the field that is clear and shorted to no known one is known where it is a pin of the
-- machine or has feet in the field, and a crosspoint of the field with known ends is kept unless it is stuck.
pub record IsClosed (k : Kept) (f : Faults) (a : Field) (known : ℕ → Type 0) : Type 0 where
  pub pins : (i : ℕ) → i < pins_of k.shape → has_number a.wires (pin_wire k.shape i) ≡ true → IsClear k.shape f (pin_wire k.shape i) →
      IsAlone k.shape f known (pin_wire k.shape i) → known (pin_wire k.shape i)
  pub wires : (w : ℕ) → has_number a.wires w ≡ true → IsClear k.shape f w → IsAlone k.shape f known w →
      HasFeet k.shape f (λ x. has_number a.crosses x ≡ true) known w → known w
  pub crosses : (x : ℕ) → has_number a.crosses x ≡ true → known (ends_of k.shape x).0 → known (ends_of k.shape x).1 →
      stuck_cross f x ≡ None → keeps_cross k x ≡ true

pub record ClosedIf (told : Option Faults) (k : Kept) (a : Field) (ss : List VerifiedWire) : Type 0 where
  pub at : (f : Faults) → told ≡ Some f → HoldsUntried k f → IsClosed k f a (HasWire ss)

-- what was known still is, and what is new is of the field
pub record GrowsIn (a : Field) (old new : List VerifiedWire) : Type 0 where
  pub stays : (w : ℕ) → HasWire old w → HasWire new w
  pub within : (w : ℕ) → HasWire new w → HasWire old w ⊎ (has_number a.wires w ≡ true)

-- how many of the numbers below this one are so
abbrev pub how_many : (ℕ → Bool) → ℕ → ℕ
how_many is_so zero = 0
how_many is_so (suc n) = (if is_so n then 1 else 0) + how_many is_so n

-- the crosspoints of the field that the proof doesn't keep
abbrev pub fresh : Kept → Field → ℕ
fresh k a = how_many (λ x. has_number a.crosses x && not (keeps_cross k x)) (length a.crosses)

-- the pins of the machine that are in the field
abbrev pub pins_in : Shape → Field → ℕ
pins_in m a = how_many (λ i. has_number a.wires (pin_wire m i)) (pins_of m)

-- without faults, at most two loads for each crosspoint of the field that the proof doesn't keep and three for each of its wires, less
-- one for each pin of the machine in it
pub record TakesFew (told : Option Faults) (k : Kept) (a : Field) (before after : ℕ) : Type 0 where
  pub at : (f : Faults) → told ≡ Some f → IsFaultless f → HoldsFor k f →
      after + pins_in k.shape a ≤ before + (2 * fresh k a + 3 * size_of a.wires)
