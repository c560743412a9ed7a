-- When nets are laid on lines and ports of the tree of crossbars.
--
-- `terminal k w` says that w is a terminal of net k, `line n k w` that net k has the line w at node n, and `port n k w`
-- that it has the port w of node n.
use Rattle.std.specs.Prelude.{◌≡◌, ℕ, Bool, true, Some}
use Rattle.machine_shape.specs.{declared.Shape.Shape, Shape.ends_of, Shape.node_of, Shape.parent_of, Shape.IsLine, Shape.IsPort}
use Rattle.place_plan.specs.Strands.{IsInside, Crosses, Visits}

-- the taps of a net at a node: its terminals there, its ports of the node's children, and its ports of the node
pub data IsNetTap (m : Shape) (terminal : ℕ → ℕ → Type 0) (port : ℕ → ℕ → ℕ → Type 0) (n k t : ℕ) : Type 0 where
  by_terminal : terminal k t → node_of m t ≡ n → IsNetTap m terminal port n k t
  by_child : (c : ℕ) → parent_of m c ≡ Some n → port c k t → IsNetTap m terminal port n k t
  by_port : port n k t → IsNetTap m terminal port n k t

-- Each net has a line at each node that it visits and a port of each node that it crosses, and no line and no port is
-- of two. The closed crosspoints are those of a net's line at a node and its taps there.
pub record IsLaidOnTree (m : Shape) (terminal : ℕ → ℕ → Type 0) (closed : ℕ → Bool) (line port : ℕ → ℕ → ℕ → Type 0) : Type 0 where
  pub given : (n k : ℕ) → Visits m (terminal k) n → (w : ℕ) × line n k w
  pub lines : (n k w : ℕ) → line n k w → IsLine m n w
  pub lines_apart : (n k l w : ℕ) → line n k w → line n l w → k ≡ l
  pub passed : (n k : ℕ) → Crosses m (terminal k) n → (w : ℕ) × port n k w
  pub ports : (n k w : ℕ) → port n k w → IsPort m n w
  pub ports_apart : (n k l w : ℕ) → port n k w → port n l w → k ≡ l
  pub closes : (n k w t : ℕ) → line n k w → IsNetTap m terminal port n k t → (x : ℕ) × (closed x ≡ true) × (ends_of m x ≡ (t, w))
  pub only : (x : ℕ) → closed x ≡ true → (n : ℕ) × (k : ℕ) × (w : ℕ) × (t : ℕ) × line n k w × IsNetTap m terminal port n k t
      × (ends_of m x ≡ (t, w))

-- the wires of a net
pub data IsOfNet (terminal : ℕ → ℕ → Type 0) (line port : ℕ → ℕ → ℕ → Type 0) (k w : ℕ) : Type 0 where
  as_terminal : terminal k w → IsOfNet terminal line port k w
  as_line : (n : ℕ) → line n k w → IsOfNet terminal line port k w
  as_port : (n : ℕ) → port n k w → IsOfNet terminal line port k w

-- terminals are neither lines nor ports, all are inside the root, and no two nets share one
pub record AreTerminals (m : Shape) (terminal : ℕ → ℕ → Type 0) : Type 0 where
  pub apart : (k l w : ℕ) → terminal k w → terminal l w → k ≡ l
  pub no_line : (k n w : ℕ) → terminal k w → IsLine m n w → ⊥
  pub no_port : (k n w : ℕ) → terminal k w → IsPort m n w → ⊥
  pub below : (k w : ℕ) → terminal k w → IsInside m 0 w
