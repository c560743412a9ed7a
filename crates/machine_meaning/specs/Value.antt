-- The value of a wire.
use Rattle.std.specs.Prelude.{◌≡◌, ℕ, ◌<◌, ◌≤◌, Bool, true, false, Some, None, slice_index_or}
use Rattle.machine_shape.specs.Shape.{pin_wire, table_wire, pins_of, wires_of, crosses_of, tables_of}
use Rattle.machine_meaning.specs.{Joined.Linked, Joined.Joined, Circuit.Circuit, Circuit.Outputs, Circuit.Pins}

-- a pin of the machine that is driven 0, or the output pin of a table that gives 0
pub data Pulls (c : Circuit) (drive : Pins) (outputs : Outputs) (w : ℕ) : Type 0 where
  by_pin : (k : ℕ) → k < pins_of c.net.shape → slice_index_or drive k true ≡ false → pin_wire c.net.shape k ≡ w → Pulls c drive outputs w
  by_table : (t : ℕ) → outputs t ≡ false → table_wire c.net.shape t 6 ≡ w → Pulls c drive outputs w

-- a wire that is joined to w is stuck at the value
pub record IsHeld (c : Circuit) (w : ℕ) (value : Bool) : Type 0 where
  pub place : ℕ
  pub joined : Joined c.net w place
  pub stuck : c.stuck place ≡ Some value

-- a wire that is joined to w pulls it to 0
pub record IsPulled (c : Circuit) (drive : Pins) (outputs : Outputs) (w : ℕ) : Type 0 where
  pub place : ℕ
  pub joined : Joined c.net w place
  pub pulls : Pulls c drive outputs place

-- the value of the wire w
pub data IsValue (c : Circuit) (drive : Pins) (outputs : Outputs) (w : ℕ) : Bool → Type 0 where
  held_0 : IsHeld c w false → IsValue c drive outputs w false
  held_1 : ¬ IsHeld c w false → IsHeld c w true → IsValue c drive outputs w true
  pulled : ¬ IsHeld c w false → ¬ IsHeld c w true → IsPulled c drive outputs w → IsValue c drive outputs w false
  released : ¬ IsHeld c w false → ¬ IsHeld c w true → ¬ IsPulled c drive outputs w → IsValue c drive outputs w true

-- the value of each wire
abbrev pub AreValues : Circuit → Pins → Outputs → (ℕ → Bool) → Type 0
AreValues c drive outputs value = (w : ℕ) → IsValue c drive outputs w (value w)

-- nothing conducts, is bridged or is switched on beyond the machine's counts
pub record IsFinite (c : Circuit) : Type 0 where
  pub crosses : (x : ℕ) → c.net.conducts x ≡ true → x < crosses_of c.net.shape
  pub wires : (a b : ℕ) → Linked c.net a b → a < wires_of c.net.shape
  pub tables : (t : ℕ) → tables_of c.net.shape ≤ t → c.table t ≡ None
