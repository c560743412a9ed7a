-- The circuit that a configuration makes of a machine with faults, and its run.
use Rattle.std.specs.Prelude.{ℕ, Bool, Option, Some, None, if◌then◌else◌, unwrap_or, List}
use Rattle.machine_meaning.specs.Vocabulary.{Faults, stuck_wire, wrong_cell, stuck_register, net_of, Circuit, Table, Pins}
use Rattle.machine_config.specs.{declared.Setting.Setting, Run.Runs}
use Rattle.machine_config.specs.Configuration.{Configuration, is_closed, setting_of, cell_of}

-- what the register of a table always holds, if it is stuck. A combinational table uses none.
abbrev pub held_by : Faults → ℕ → Setting → Option Bool
held_by f t s = if s.latched then stuck_register f t else None

-- A wrong cell gives its own value, at a clock edge too. A stuck register holds its value from the load on.
abbrev pub table_of : Faults → ℕ → Setting → Table
table_of f t s = record {
  cell = λ a. unwrap_or (wrong_cell f t a) (cell_of s a);
  latched = s.latched;
  first = unwrap_or (held_by f t s) s.init;
  held = held_by f t s;
}

abbrev pub table_or_off : Faults → ℕ → Option Setting → Option Table
table_or_off f t None = None
table_or_off f t (Some s) = Some (table_of f t s)

abbrev pub circuit_of : Faults → Configuration → Circuit
circuit_of f g = record {
  net = net_of g.shape f (is_closed g);
  stuck = stuck_wire f;
  table = λ t. table_or_off f t (setting_of g t);
  ticks = g.ticks;
}

-- under these drives, from a load on, a machine with these faults and this configuration gives these readings
abbrev pub IsRun : Faults → Configuration → List Pins → List Pins → Type 0
IsRun f g drives reads = Runs (circuit_of f g) drives reads
