-- Ports and lines by their positions.
use Rattle.std.specs.Prelude.{◌≡◌, ℕ, ◌<◌}
use Rattle.machine_shape.specs.declared.Shape.{Shape}
use Rattle.machine_shape.specs.Shape.{nodes_of, lines_of, own_ports_of, line_at, port_at, IsLine, IsPort}

-- ports and lines are those at the positions, and their order is that of the numbers of wires
pub record HasSites (m : Shape) : Type 0 where
  pub port : (n k : ℕ) → n < nodes_of m → k < own_ports_of m n → IsPort m n (port_at m n k)
  pub some_port : (n w : ℕ) → IsPort m n w → (k : ℕ) × (k < own_ports_of m n) × (w ≡ port_at m n k)
  pub ports_ascend : (n j k : ℕ) → j < k → port_at m n j < port_at m n k
  pub line : (n k : ℕ) → n < nodes_of m → k < lines_of m n → IsLine m n (line_at m n k)
  pub some_line : (n w : ℕ) → IsLine m n w → (k : ℕ) × (k < lines_of m n) × (w ≡ line_at m n k)
  pub lines_ascend : (n j k : ℕ) → j < k → line_at m n j < line_at m n k
