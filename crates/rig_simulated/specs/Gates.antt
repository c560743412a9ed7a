-- The switched-on tables of a loaded machine, and what its wires are at a tick.
use Rattle.std.specs.Prelude.{◌≡◌, ◌⊎◌, ℕ, ◌<◌, ◌≤◌, Bool, true, false, not, ◌||◌, if◌then◌else◌, Option, Some, None, IsSome, List, length}
use Rattle.std.specs.{Prelude.map, Prelude.slice_index, Prelude.slice_index_or, Prelude.unwrap_or, Prelude.All, List.range_with_len}
use Rattle.machine_shape.specs.Shape.{table_wire, tables_of}
use Rattle.machine_meaning.specs.Vocabulary.{Outputs, Pins, Faults, wrong_cell}
use Rattle.machine_config.specs.Vocabulary.{Configuration, setting_of, cell_of, held_by, number_of}
use Rattle.rig_simulated.specs.{declared.classes.ClassNode.ClassNode, declared.gates.Gate.Gate, Classes.knot_at}

-- whether a wire has a mark
abbrev pub is_low : List Bool → ℕ → Bool
is_low marks w = slice_index_or marks w false

abbrev pub IsClear : List Bool → Type 0
IsClear marks = (r : ℕ) → is_low marks r ≡ false

-- what a class is: what holds it, else 0 if it is pulled, else 1
abbrev pub level_of : Option Bool → Bool → Bool
level_of (Some value) low = value
level_of None low = not low

abbrev pub level_at : List ClassNode → List Bool → List Bool → ℕ → Bool
level_at knots pins tables r = level_of (knot_at knots r).held (is_low pins r || is_low tables r)

-- the address at six classes
abbrev pub address_by : (ℕ → Bool) → List ℕ → ℕ
address_by level ins = number_of (map (λ j. level (slice_index ins j)) (range_with_len 0 6))

-- what a table gives at an address
abbrev pub cell_by : Faults → Gate → ℕ → Bool
cell_by f gate address = unwrap_or (wrong_cell f gate.table.0 address) (cell_of gate.setting address)

-- the table after a tick, and after a clock edge
abbrev pub ticked : Faults → (ℕ → Bool) → Gate → Gate
ticked f level gate = record gate { output = if gate.setting.latched then gate.output else cell_by f gate (address_by level gate.ins) }

abbrev pub clocked : Faults → (ℕ → Bool) → Gate → Gate
clocked f level gate = record gate {
  output = if gate.setting.latched then unwrap_or gate.held
      (cell_by f gate (address_by level gate.ins)) else gate.output;
}

-- a table as the code keeps it
pub record IsGate (f : Faults) (g : Configuration) (root : ℕ → ℕ) (gate : Gate) : Type 0 where
  pub table : gate.table.0 < tables_of g.shape
  pub setting : setting_of g gate.table.0 ≡ Some gate.setting
  pub held : gate.held ≡ held_by f gate.table.0 gate.setting
  pub ins : (j : ℕ) → j < 6 → slice_index gate.ins j ≡ root (table_wire g.shape gate.table.0 j)
  pub out : gate.out ≡ root (table_wire g.shape gate.table.0 6)

-- its numbers are below these
pub record Fits (tables wires : ℕ) (gate : Gate) : Type 0 where
  pub table : gate.table.0 < tables
  pub ins : (j : ℕ) → j < 6 → slice_index gate.ins j < wires
  pub out : gate.out < wires

-- the place of a table in the list
pub record Stands (gates : List Gate) (t : ℕ) : Type 0 where
  pub place : ℕ
  pub within : place < length gates
  pub here : (d : Gate) → (slice_index_or gates place d).table.0 ≡ t

-- all tables that are on
pub record AreGates (f : Faults) (g : Configuration) (root : ℕ → ℕ) (gates : List Gate) : Type 0 where
  pub each : All (IsGate f g root) gates
  pub all : (t : ℕ) → IsSome (setting_of g t) → Stands gates t

-- what the tables give now
pub record AreOutputs (g : Configuration) (gates : List Gate) (outputs : Outputs) : Type 0 where
  pub each : All (λ gate. outputs gate.table.0 ≡ gate.output) gates
  pub off : (t : ℕ) → setting_of g t ≡ None → outputs t ≡ true

-- one of the first n tables gives 0 to the class
pub record IsPulledBy (gates : List Gate) (n r : ℕ) : Type 0 where
  pub place : ℕ
  pub below : place < n
  pub out : (d : Gate) → (slice_index_or gates place d).out ≡ r
  pub low : (d : Gate) → (slice_index_or gates place d).output ≡ false

-- one of the tables from the nth on has its output in the class
pub record IsOutputOf (gates : List Gate) (n r : ℕ) : Type 0 where
  pub place : ℕ
  pub from : n ≤ place
  pub within : place < length gates
  pub out : (d : Gate) → (slice_index_or gates place d).out ≡ r

-- one of the first n pins is driven 0 and is in the class
pub record IsDrivenBy (pins : List ℕ) (drive : Pins) (n r : ℕ) : Type 0 where
  pub place : ℕ
  pub below : place < n
  pub root : slice_index pins place ≡ r
  pub low : slice_index_or drive place true ≡ false

-- one of the pins from the nth on is in the class
pub record IsPinOf (pins : List ℕ) (n r : ℕ) : Type 0 where
  pub place : ℕ
  pub from : n ≤ place
  pub within : place < length pins
  pub root : slice_index pins place ≡ r

-- there are more marks now, which are these
pub record AreMarkedToo (old new : List Bool) (P : ℕ → Type 0) : Type 0 where
  pub len : length new ≡ length old
  pub kept : (r : ℕ) → is_low old r ≡ true → is_low new r ≡ true
  pub more : (r : ℕ) → P r → is_low new r ≡ true
  pub only : (r : ℕ) → is_low new r ≡ true → (is_low old r ≡ true) ⊎ P r
