-- How the names of nodes and tables are made of the names above them.
use Rattle.std.specs.Prelude.{◌≡◌, ℕ, ◌+◌, ◌*◌, ◌%◌, ◌<◌, Some, ◌∷◌, ◌++◌}
use Rattle.machine_shape.specs.{declared.Shape.Shape, Shape.levels_of, Shape.tables_of, Shape.way_to, Shape.hextant_of, Shape.parent_of}
use Rattle.machine_shape.specs.{Walk.size, Walk.rest, Walk.next, Walk.nodes_in, Names.numbered, Names.node_name, Names.table_name}

-- the child of a node at a position: the children follow their node one by one, each with all nodes below it
unfoldable pub child_at : Shape → ℕ → ℕ → ℕ
child_at m n i = n + (1 + i * size nodes_in (next (rest (levels_of m) (way_to m n))))

-- A module is called m and its position. A chip, a hextant and a table are called by the name of the node above,
-- a dot, and c, h or t with their position. No node is below a hextant.
pub record HasPartNames (m : Shape) : Type 0 where
  pub position : (c n : ℕ) → parent_of m c ≡ Some n → (i : ℕ) × (c ≡ child_at m n i)
  pub modules : (c i : ℕ) → parent_of m c ≡ Some 0 → c ≡ child_at m 0 i → node_name m c ≡ numbered 109 i
  pub chips : (p c i : ℕ) → parent_of m p ≡ Some 0 → parent_of m c ≡ Some p → c ≡ child_at m p i →
      node_name m c ≡ node_name m p ++ 46 ∷ numbered 99 i
  pub hextants : (q p c i : ℕ) → parent_of m q ≡ Some 0 → parent_of m p ≡ Some q → parent_of m c ≡ Some p → c ≡ child_at m p i →
      node_name m c ≡ node_name m p ++ 46 ∷ numbered 104 i
  pub last : (q p c d : ℕ) → parent_of m q ≡ Some 0 → parent_of m p ≡ Some q → parent_of m c ≡ Some p → parent_of m d ≡ Some c → ⊥
  pub tables : (t : ℕ) → t < tables_of m → table_name m t ≡ node_name m (hextant_of m t) ++ 46 ∷ numbered 116 (t % m.counts.tables)
