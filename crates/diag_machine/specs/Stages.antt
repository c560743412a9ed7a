-- The stages of a diagnosis.
use Rattle.std.specs.Prelude.{◌≡◌, ℕ, ◌+◌, ◌*◌, ◌<◌, true, Option, Some, None, List}
use Rattle.base_bits.specs.Numbers.{has_number}
use Rattle.machine_shape.specs.declared.Shape.{Shape}
use Rattle.machine_shape.specs.Shape.{pins_of, pin_wire, wires_of, crosses_of, tables_of, ends_of}
use Rattle.machine_meaning.specs.Vocabulary.{Faults, IsFaultless, stuck_cross, IsClear, IsAlone, HasFeet}
use Rattle.diag_evidence.specs.Kept.{Kept, HoldsFor, keeps_cross}
use Rattle.diag_known.specs.{Known.HasWire, declared.field.Field.Field, declared.verified_wire.VerifiedWire.VerifiedWire}
use Rattle.diag_growth.specs.Tables.{SeatedIsKept}

-- All is known that can be reached: each wire that is clear and shorted to no known one, and is a pin of the machine or has feet;
-- and each crosspoint between known wires that isn't stuck is kept.
pub record IsReached (k : Kept) (f : Faults) (known : ℕ → Type 0) : Type 0 where
  pub pins : (i : ℕ) → i < pins_of k.shape → IsClear k.shape f (pin_wire k.shape i) →
      IsAlone k.shape f known (pin_wire k.shape i) → known (pin_wire k.shape i)
  pub wires : (w : ℕ) → w < wires_of k.shape → IsClear k.shape f w → IsAlone k.shape f known w →
      HasFeet k.shape f (λ x. x < crosses_of k.shape) known w → known w
  pub crosses : (x : ℕ) → x < crosses_of k.shape → known (ends_of k.shape x).0 → known (ends_of k.shape x).1 →
      stuck_cross f x ≡ None → keeps_cross k x ≡ true

-- .. where the faults are told
pub record ReachedIf (told : Option Faults) (k : Kept) (ss : List VerifiedWire) : Type 0 where
  pub at : (f : Faults) → told ≡ Some f → IsReached k f (HasWire ss)

-- where the machine is told to have no faults, and what is kept is true of that
pub record IfFaultless (told : Option Faults) (k : Kept) (P : Type 0) : Type 0 where
  pub at : (f : Faults) → told ≡ Some f → IsFaultless f → HoldsFor k f → P

-- the loads of so much for each crosspoint and so much for each wire
abbrev pub loads_for : Kept → (crosses wires : ℕ) → ℕ
loads_for k crosses wires = crosses * crosses_of k.shape + wires * wires_of k.shape

-- each table of the machine that is seated in the known wires and kept crosspoints, and is right, is kept
pub record TablesIf (told : Option Faults) (k l : Kept) (ss : List VerifiedWire) : Type 0 where
  pub each : (t : ℕ) → t < tables_of k.shape → SeatedIsKept told k l ss t

-- the whole machine is looked at
pub record IsWhole (m : Shape) (a : Field) : Type 0 where
  pub wires : (w : ℕ) → w < wires_of m → has_number a.wires w ≡ true
  pub crosses : (x : ℕ) → x < crosses_of m → has_number a.crosses x ≡ true
