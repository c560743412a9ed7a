-- The nodes of wires and the nodes above nodes, as lists.
use Rattle.std.specs.Prelude.{◌≡◌, ◌≢◌, ℕ, ◌<◌, Some, List, length, slice_index_or}
use Rattle.machine_shape.specs.{declared.Shape.Shape, Shape.nodes_of, Shape.node_of, Shape.parent_of, Shape.IsAbove}

-- the nodes of the first wires
pub record AreHomes (m : Shape) (count : ℕ) (homes : List ℕ) : Type 0 where
  pub sized : length homes ≡ count
  pub home : (w : ℕ) → w < count → slice_index_or homes w 0 ≡ node_of m w

-- the nodes above the first nodes; what stands at the root says nothing
pub record AreParents (m : Shape) (count : ℕ) (parents : List ℕ) : Type 0 where
  pub sized : length parents ≡ count
  pub parent : (c : ℕ) → 0 < c → c < count → parent_of m c ≡ Some (slice_index_or parents c 0)

-- a is the wire's node or above it, below node n or outside of it
pub record IsClimb (m : Shape) (n home a : ℕ) : Type 0 where
  pub within : a < nodes_of m
  pub above : IsAbove m a home
  pub rest : IsAbove m n home → IsAbove m n a
  pub other : n ≢ a
