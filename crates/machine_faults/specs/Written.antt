-- The text that is written for a fault set.
use Rattle.std.specs.Prelude.{ℕ, ◌≡◌, Bool, not, List, ◌++◌, map, filter}
use Rattle.std.specs.FinMap as maps
use Rattle.std.specs.FinSet as set
use Rattle.std.specs.{Map.keys_of, Ordering.nat_cmp, List.Sorted.IsStrictlySortedBy}
use Rattle.machine_shape.specs.declared.Shape.{Shape}
use Rattle.machine_meaning.specs.Faults.{Faults, pair_cmp}
use Rattle.base_text.specs.Written.{written}
use Rattle.machine_faults.specs.{declared.fault.Fault.Fault, Text.fault_words}
use Rattle.machine_faults.specs.declared.fault.Fault.TheVariants.{Stuck, CrossStuck, Cell, Register, Bridge}

abbrev pub stuck_wire_at : ℕ × Bool → Fault
stuck_wire_at e = Stuck (record { 0 = e.0 }) e.1

abbrev pub stuck_cross_at : ℕ × Bool → Fault
stuck_cross_at e = CrossStuck (record { 0 = e.0 }) e.1

abbrev pub wrong_cell_at : (ℕ × ℕ) × Bool → Fault
wrong_cell_at e = Cell (record { 0 = e.0.0 }) e.0.1 e.1

abbrev pub stuck_register_at : ℕ × Bool → Fault
stuck_register_at e = Register (record { 0 = e.0 }) e.1

abbrev pub bridge_of : ℕ × ℕ → Fault
bridge_of p = Bridge (record { 0 = p.0 }) (record { 0 = p.1 })

-- the faults of each kind, by their numbers
pub record Kinds : Type 0 where
  pub wires : List (ℕ × Bool)
  pub crosses : List (ℕ × Bool)
  pub cells : List ((ℕ × ℕ) × Bool)
  pub registers : List (ℕ × Bool)
  pub bridges : List (ℕ × ℕ)

-- the groups of a text: what is stuck at 0 or open stands before what is stuck at 1 or closed
abbrev pub grouped : Kinds → List Fault
grouped k =
    map stuck_wire_at (filter (λ e. not e.1) k.wires)
    ++ map stuck_wire_at (filter (λ e. e.1) k.wires)
    ++ map stuck_cross_at (filter (λ e. not e.1) k.crosses)
    ++ map stuck_cross_at (filter (λ e. e.1) k.crosses)
    ++ map wrong_cell_at k.cells
    ++ map stuck_register_at k.registers
    ++ map bridge_of k.bridges

-- each kind ascends: cells by table, then address; bridges, whose lower wire stands first, by that and then the other
pub record AreAscending (k : Kinds) : Type 0 where
  pub wires : IsStrictlySortedBy nat_cmp (keys_of k.wires)
  pub crosses : IsStrictlySortedBy nat_cmp (keys_of k.crosses)
  pub cells : IsStrictlySortedBy pair_cmp (keys_of k.cells)
  pub registers : IsStrictlySortedBy nat_cmp (keys_of k.registers)
  pub bridges : IsStrictlySortedBy pair_cmp k.bridges

abbrev pub faults_of : Kinds → Faults
faults_of k = record {
  wires = maps.from_entries k.wires;
  crosses = maps.from_entries k.crosses;
  cells = maps.from_entries k.cells;
  registers = maps.from_entries k.registers;
  bridges = set.from_list k.bridges;
}

-- the faults of a set in the order of its text
pub record AreInOrder (f : Faults) (faults : List Fault) : Type 0 where
  pub kinds : Kinds
  pub ascend : AreAscending kinds
  pub all : faults_of kinds ≡ f
  pub groups : faults ≡ grouped kinds

-- the text that is written for a set: each fault on a line, with single spaces
pub record IsWritten (m : Shape) (f : Faults) (text : List ℕ) : Type 0 where
  pub faults : List Fault
  pub ordered : AreInOrder f faults
  pub lines : text ≡ written (map (fault_words m) faults)
