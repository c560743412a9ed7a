-- What generated faults leave sound.
use Rattle.std.specs.Prelude.{ℕ, ◌<◌}
use Rattle.machine_shape.specs.declared.Shape.{Shape}
use Rattle.machine_shape.specs.Shape.{pin_wire, line_at, port_at, pins_of, lines_of, own_ports_of, nodes_of, tables_of}
use Rattle.machine_meaning.specs.Vocabulary.{Faults, IsSoundWire, IsSoundTable, IsWholeLine}
use Rattle.machine_bench.specs.Faults.{table_position}

-- the first 20 pins of the machine and ports of each node are sound, its first 20 lines are whole, and the first 4 tables of each
-- hextant are sound
pub record LeavesSound (m : Shape) (f : Faults) : Type 0 where
  pub pins : (k : ℕ) → k < 20 → k < pins_of m → IsSoundWire m f (pin_wire m k)
  pub ports : (n k : ℕ) → n < nodes_of m → k < 20 → k < own_ports_of m n → IsSoundWire m f (port_at m n k)
  pub lines : (n k : ℕ) → n < nodes_of m → k < 20 → k < lines_of m n → IsWholeLine m f (line_at m n k)
  pub tables : (t : ℕ) → t < tables_of m → table_position m t < 4 → IsSoundTable m f t
