-- The crosspoints of a node stand in rows: one row for each tap, and in it one crosspoint for each line.
use Rattle.std.specs.Prelude.{◌≡◌, ℕ, ◌+◌, ◌*◌, ◌<◌}
use Rattle.machine_shape.specs.{declared.Shape.Shape, Walk.start, Walk.crosses_in}
use Rattle.machine_shape.specs.Shape.{levels_of, way_to, crosses_of, nodes_of, lines_of, taps_of, tap_at, line_at, port_at, cross_at}
use Rattle.machine_shape.specs.Shape.{node_of_cross, ends_of}

-- the number of a node's first crosspoint
unfoldable pub first_cross_of : Shape → ℕ → ℕ
first_cross_of m n = start crosses_in (levels_of m) (way_to m n)

-- Rows follow each other as the taps do, and the crosspoints of a row as the lines do. The lines of a node have numbers
-- that follow each other, and so have its ports.
pub record HasRows (m : Shape) : Type 0 where
  pub cross : (n i j : ℕ) → cross_at m n i j ≡ first_cross_of m n + i * lines_of m n + j
  pub within : (n i j : ℕ) → n < nodes_of m → i < taps_of m n → j < lines_of m n → first_cross_of m n + i * lines_of m n + j < crosses_of m
  pub node : (n i j : ℕ) → n < nodes_of m → i < taps_of m n → j < lines_of m n →
      node_of_cross m (first_cross_of m n + i * lines_of m n + j) ≡ n
  pub ends : (n i j : ℕ) → n < nodes_of m → i < taps_of m n → j < lines_of m n →
      ends_of m (first_cross_of m n + i * lines_of m n + j) ≡ (tap_at m n i, line_at m n j)
  pub line : (n j : ℕ) → line_at m n j ≡ line_at m n 0 + j
  pub port : (n k : ℕ) → port_at m n k ≡ port_at m n 0 + k
