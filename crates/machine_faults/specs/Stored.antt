-- What the code keeps for a fault set.
use Rattle.std.specs.Prelude.{◌≡◌, ℕ, List, map, length}
use Rattle.std.specs.FinMap as maps
use Rattle.std.specs.FinSet as set
use Rattle.machine_shape.specs.declared.Wire.{Wire}
use Rattle.machine_meaning.specs.Faults.{Faults, pair_cmp}
use Rattle.machine_faults.specs.{declared.entries.Entries.Entries, Written.Kinds}

-- the faults that the entries are
abbrev pub faults_in : Entries → Faults
faults_in e = record {
  wires = maps.from_entries e.wires.entries;
  crosses = maps.from_entries e.crosses.entries;
  cells = maps.from_entries e.cells.entries;
  registers = maps.from_entries e.registers.entries;
  bridges = set.from_list e.pairs.keys;
}

-- the entries of each kind
abbrev pub kinds_in : Entries → Kinds
kinds_in e = record {
  wires = e.wires.entries;
  crosses = e.crosses.entries;
  cells = e.cells.entries;
  registers = e.registers.entries;
  bridges = e.pairs.keys;
}

-- two wires as their numbers
abbrev pub pair_of : Wire × Wire → ℕ × ℕ
pair_of p = (p.0.0, p.1.0)

-- each bridge of a set is listed once
pub record Lists (bridges : List (Wire × Wire)) (s : set.FinSet pair_cmp) : Type 0 where
  pub same : set.from_list (map pair_of bridges) ≡ s
  pub once : length bridges ≡ set.len s
