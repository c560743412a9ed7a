-- Where a wire is, seen from a node, and which nodes a net visits and crosses.
use Rattle.std.specs.Prelude.{◌≡◌, ◌≢◌, ℕ, Some}
use Rattle.machine_shape.specs.{declared.Shape.Shape, Shape.node_of, Shape.parent_of, Shape.IsAbove}
use Rattle.place_plan.specs.declared.tree.NetSide.{NetSide, TheVariants.Own, TheVariants.Child, TheVariants.Outside}

-- the wire is of the node, or of one below it
abbrev pub IsInside : Shape → ℕ → ℕ → Type 0
IsInside m n w = IsAbove m n (node_of m w)

-- seen from node n, the wire w is the node's own, in a child, or outside
pub data IsAt (m : Shape) (n w : ℕ) : NetSide → Type 0 where
  at_own : node_of m w ≡ n → IsAt m n w (Own w)
  at_child : (c : ℕ) → parent_of m c ≡ Some n → IsInside m c w → IsAt m n w (Child c)
  at_outside : ¬ IsInside m n w → IsAt m n w Outside

-- the net with these terminals has the strand at the node
pub record IsStrand (m : Shape) (terminal : ℕ → Type 0) (n : ℕ) (s : NetSide) : Type 0 where
  pub wire : ℕ
  pub is : terminal wire
  pub at : IsAt m n wire s

-- it has terminals inside and outside of the node
pub record Crosses (m : Shape) (terminal : ℕ → Type 0) (n : ℕ) : Type 0 where
  pub inner : ℕ
  pub outer : ℕ
  pub inner_is : terminal inner
  pub outer_is : terminal outer
  pub inside : IsInside m n inner
  pub not_inside : ¬ IsInside m n outer

-- it has two strands at least, so a terminal inside
pub record Visits (m : Shape) (terminal : ℕ → Type 0) (n : ℕ) : Type 0 where
  pub one : NetSide
  pub two : NetSide
  pub different : one ≢ two
  pub first : IsStrand m terminal n one
  pub second : IsStrand m terminal n two

-- the tap by which a strand comes to the node, where the net has these ports
abbrev pub tap_of : (ℕ → ℕ) → ℕ → NetSide → ℕ
tap_of port n (Own w) = w
tap_of port n (Child c) = port c
tap_of port n Outside = port n
