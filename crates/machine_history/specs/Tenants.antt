-- Tenants of an image, what leaves them alone, and how they run alone.
use Rattle.std.specs.Prelude.{◌≡◌, ◌≢◌, ℕ, ◌<◌, ◌≤◌, Bool, true, false, ◌++◌, Some, None, IsSome, Contains, slice_index_or}
use Rattle.machine_shape.specs.Shape.{ends_of, pin_wire, table_wire}
use Rattle.machine_meaning.specs.Vocabulary.{Faults, stuck_wire, stuck_cross, wrong_cell, stuck_register, is_bridge, Shorted, IsClear}
use Rattle.machine_meaning.specs.Vocabulary.{Pins}
use Rattle.machine_config.specs.{declared.Setting.Setting, Vocabulary.is_closed, Vocabulary.setting_of}
use Rattle.machine_image.specs.Vocabulary.{ImageValue, Uses, drive_of, row_at}
use Rattle.machine_history.specs.Histories.{History}

-- A tenant of a whole has its shape and its ticks, and some of its closed crosspoints, switched-on tables and pins. No wire that
-- the tenant uses is an end of another closed crosspoint of the whole, a pin of another switched-on table, or another pin.
pub record IsTenantOf (whole tenant : ImageValue) : Type 0 where
  pub shape : tenant.config.shape ≡ whole.config.shape
  pub ticks : tenant.config.ticks ≡ whole.config.ticks
  pub crosses : (x : ℕ) → is_closed tenant.config x ≡ true → is_closed whole.config x ≡ true
  pub tables : (t : ℕ) (s : Setting) → setting_of tenant.config t ≡ Some s → setting_of whole.config t ≡ Some s
  pub pins : (k : ℕ) → Contains (tenant.inputs ++ tenant.outputs) k → Contains (whole.inputs ++ whole.outputs) k
  pub own_taps : (x : ℕ) → is_closed whole.config x ≡ true → Uses tenant (ends_of whole.config.shape x).0 →
      is_closed tenant.config x ≡ true
  pub own_lines : (x : ℕ) → is_closed whole.config x ≡ true → Uses tenant (ends_of whole.config.shape x).1 →
      is_closed tenant.config x ≡ true
  pub own_tables : (t k : ℕ) → IsSome (setting_of whole.config t) → k < 7 → Uses tenant (table_wire whole.config.shape t k) →
      IsSome (setting_of tenant.config t)
  pub own_pins : (k : ℕ) → Contains (whole.inputs ++ whole.outputs) k → Uses tenant (pin_wire whole.config.shape k) →
      Contains (tenant.inputs ++ tenant.outputs) k

-- No closed crosspoint of the tenant is stuck open, no table of it has a wrong cell, and no latched one a stuck register. No wire
-- that it uses is shorted to a stuck one, or to another wire that the whole uses.
pub record LeavesAlone (f : Faults) (whole tenant : ImageValue) : Type 0 where
  pub crosses : (x : ℕ) → is_closed tenant.config x ≡ true → stuck_cross f x ≢ Some false
  pub clear : (w : ℕ) → Uses tenant w → IsClear whole.config.shape f w
  pub apart : (w u : ℕ) → Uses tenant w → Uses whole u → Shorted whole.config.shape f w u → w ≡ u
  pub cells : (t a : ℕ) → IsSome (setting_of tenant.config t) → a < 64 → wrong_cell f t a ≡ None
  pub registers : (t : ℕ) (s : Setting) → setting_of tenant.config t ≡ Some s → s.latched ≡ true → stuck_register f t ≡ None

-- so at each instant of the first n cycles
abbrev pub LeavesAloneFor : ℕ → History → (whole tenant : ImageValue) → Type 0
LeavesAloneFor n h whole tenant = (cycle instant : ℕ) → cycle < n → instant ≤ whole.config.ticks →
    LeavesAlone (h cycle instant) whole tenant

-- each of these faults is one of the others
pub record AreAmong (fewer more : Faults) : Type 0 where
  pub wires : (w : ℕ) (b : Bool) → stuck_wire fewer w ≡ Some b → stuck_wire more w ≡ Some b
  pub crosses : (x : ℕ) (b : Bool) → stuck_cross fewer x ≡ Some b → stuck_cross more x ≡ Some b
  pub cells : (t a : ℕ) (b : Bool) → wrong_cell fewer t a ≡ Some b → wrong_cell more t a ≡ Some b
  pub registers : (t : ℕ) (b : Bool) → stuck_register fewer t ≡ Some b → stuck_register more t ≡ Some b
  pub bridges : (p : ℕ × ℕ) → is_bridge fewer p ≡ true → is_bridge more p ≡ true

-- each pin that is driven 0 is one of the whole's, and none of the tenant's output pins
pub record IsDriveFor (whole tenant : ImageValue) (drive : Pins) : Type 0 where
  pub within : (k : ℕ) → slice_index_or drive k true ≡ false → Contains (whole.inputs ++ whole.outputs) k
  pub outputs : (k : ℕ) → Contains tenant.outputs k → slice_index_or drive k true ≡ true

-- the same bits on the tenant's input pins, and 1 on all others
abbrev pub drive_alone : ImageValue → Pins → Pins
drive_alone tenant drive = drive_of tenant (row_at tenant.inputs drive)
