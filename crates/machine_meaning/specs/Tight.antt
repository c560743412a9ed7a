-- When a list holds nothing that could be shown to be sound.
use Rattle.std.specs.Prelude.{◌≡◌, ◌≢◌, ℕ, ◌<◌, true, None}
use Rattle.std.specs.FinSet as set
use Rattle.machine_shape.specs.declared.Shape.{Shape}
use Rattle.machine_shape.specs.Shape.{Ends, ends_of, pin_wire, pins_of, wires_of, crosses_of, tables_of}
use Rattle.machine_meaning.specs.{Faults.Faults, Faults.stuck_cross, Faults.wrong_cell, Faults.stuck_register, Standing.IsSeated}
use Rattle.machine_meaning.specs.{Joined.Shorted, Defects.Defects, Defects.IsFreeWire, Defects.IsFreeCross, Defects.IsClear, Defects.Covers}

-- the free wires and crosspoints of the machine
abbrev pub IsFreeWireOf : Shape → Defects → ℕ → Type 0
IsFreeWireOf m d w = (w < wires_of m) × IsFreeWire d w

abbrev pub IsFreeCrossOf : Shape → Defects → ℕ → Type 0
IsFreeCrossOf m d x = (x < crosses_of m) × IsFreeCross m d x

-- shorted to none of these wires
abbrev pub IsAlone : Shape → Faults → (ℕ → Type 0) → ℕ → Type 0
IsAlone m f wires w = (u : ℕ) → wires u → ¬ Shorted m f w u

-- two of these crosspoints that aren't stuck lead from the wire to two different ones of these wires
pub data HasFeet (m : Shape) (f : Faults) (crosses wires : ℕ → Type 0) (w : ℕ) : Type 0 where
  two : (x y a b : ℕ) → crosses x → crosses y → Ends (ends_of m x) a w → Ends (ends_of m y) b w → a ≢ b → wires a → wires b →
      stuck_cross f x ≡ None → stuck_cross f y ≡ None → HasFeet m f crosses wires w

-- by any crosspoints of the machine, to free wires
abbrev pub HasFreeFeet : Shape → Defects → Faults → ℕ → Type 0
HasFreeFeet m d f w = HasFeet m f (λ x. x < crosses_of m) (IsFreeWireOf m d) w

-- no cell is wrong, and the register isn't stuck
pub record IsRightTable (f : Faults) (t : ℕ) : Type 0 where
  pub cells : (a : ℕ) → a < 64 → wrong_cell f t a ≡ None
  pub register : stuck_register f t ≡ None

-- It holds no clear pin that is shorted to no free wire, no such wire with two crosspoints that aren't stuck to two different free
-- wires, no crosspoint that isn't stuck, and no seated table that is right.
pub record IsTight (m : Shape) (d : Defects) (f : Faults) : Type 0 where
  pub pins : (k : ℕ) → k < pins_of m → IsClear m f (pin_wire m k) → IsAlone m f (IsFreeWireOf m d) (pin_wire m k) →
      IsFreeWire d (pin_wire m k)
  pub wires : (w : ℕ) → w < wires_of m → IsClear m f w → IsAlone m f (IsFreeWireOf m d) w → HasFreeFeet m d f w → IsFreeWire d w
  pub crosses : (x : ℕ) → x < crosses_of m → set.contains d.crosses x ≡ true → stuck_cross f x ≢ None
  pub tables : (t : ℕ) → t < tables_of m → set.contains d.tables t ≡ true → IsSeated m (IsFreeWireOf m d) (IsFreeCrossOf m d) t →
      ¬ IsRightTable f t

-- a pin of the machine, or a wire with two such crosspoints
pub data CouldStand (m : Shape) (d : Defects) (f : Faults) (w : ℕ) : Type 0 where
  as_pin : (k : ℕ) → k < pins_of m → w ≡ pin_wire m k → CouldStand m d f w
  on_feet : HasFreeFeet m d f w → CouldStand m d f w

-- the list is the other with entries taken off, or is that one
pub record IsTakenOff (m : Shape) (d less : Defects) : Type 0 where
  pub wires : (w : ℕ) → w < wires_of m → set.contains less.wires w ≡ true → set.contains d.wires w ≡ true
  pub crosses : (x : ℕ) → x < crosses_of m → set.contains less.crosses x ≡ true → set.contains d.crosses x ≡ true
  pub tables : (t : ℕ) → t < tables_of m → set.contains less.tables t ≡ true → set.contains d.tables t ≡ true

-- A list that is this one with entries taken off and that covers the faults has still each wire of it that could stand or isn't
-- clear, each crosspoint, and each table that is seated.
pub record IsLeast (m : Shape) (d : Defects) (f : Faults) : Type 0 where
  pub wires : (less : Defects) → IsTakenOff m d less → Covers m less f → (w : ℕ) → w < wires_of m → CouldStand m d f w →
      set.contains d.wires w ≡ true → set.contains less.wires w ≡ true
  pub unclear : (less : Defects) → IsTakenOff m d less → Covers m less f → (w : ℕ) → w < wires_of m → ¬ IsClear m f w →
      set.contains d.wires w ≡ true → set.contains less.wires w ≡ true
  pub crosses : (less : Defects) → IsTakenOff m d less → Covers m less f → (x : ℕ) → set.contains d.crosses x ≡ true →
      set.contains less.crosses x ≡ true
  pub tables : (less : Defects) → IsTakenOff m d less → Covers m less f → (t : ℕ) →
      IsSeated m (IsFreeWireOf m d) (IsFreeCrossOf m d) t → set.contains d.tables t ≡ true → set.contains less.tables t ≡ true

-- of the wires that are shorted to the wire, itself among them, exactly one is free
pub record HasOneFree (m : Shape) (d : Defects) (f : Faults) (w : ℕ) : Type 0 where
  pub wire : ℕ
  pub shorted : Shorted m f w wire
  pub free : IsFreeWireOf m d wire
  pub only : (u : ℕ) → Shorted m f w u → IsFreeWireOf m d u → u ≡ wire
