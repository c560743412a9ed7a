-- What all crossbars have together.
use Rattle.std.specs.Prelude.{◌≡◌, ℕ, zero, suc, ◌+◌, ◌*◌, ◌≤◌}
use Rattle.machine_shape.specs.{declared.Shape.Shape, Counts.IsAmple}
use Rattle.machine_shape.specs.Shape.{wires_of, crosses_of, nodes_of, pins_of, taps_of, lines_of}

-- the sum of f over the numbers below n
abbrev pub sum_below : (ℕ → ℕ) → ℕ → ℕ
sum_below f zero = 0
sum_below f (suc n) = sum_below f n + f n

-- The crossbars have all crosspoints. A wire is a tap or a line of its node, and of one node more at most, where a port is a tap
-- too; a pin of the machine is a tap once. With two ports and two lines at each level, there are four wires for each node.
pub record HasSums (m : Shape) : Type 0 where
  pub crosses : sum_below (λ n. taps_of m n * lines_of m n) (nodes_of m) ≡ crosses_of m
  pub wires : sum_below (λ n. taps_of m n + lines_of m n) (nodes_of m) + pins_of m ≤ 2 * wires_of m
  pub nodes : IsAmple m.counts → 4 * nodes_of m ≤ wires_of m
