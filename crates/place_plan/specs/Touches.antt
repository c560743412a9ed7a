-- Which nets have a terminal inside each node, as lists.
use Rattle.std.specs.Prelude.{◌≡◌, ◌≢◌, ℕ, ◌-◌, ◌<◌, ◌==◌, ◌&&◌, ◌++◌, List, [], ◌∷◌, Bool, nat_lt, if◌then◌else◌, length, slice_index_or}
use Rattle.std.specs.List.{Contains}
use Rattle.machine_shape.specs.{declared.Shape.Shape, Shape.nodes_of, Shape.IsAbove}
use Rattle.place_plan.specs.{Lists.AreLists, Strands.IsInside, Room.HasTerminal}

-- the list of a node
abbrev pub list_at : List (List ℕ) → ℕ → List ℕ
list_at ts n = slice_index_or ts n []

-- net k has a terminal inside the node
abbrev pub Touches : Shape → List (List ℕ) → ℕ → ℕ → Type 0
Touches m nets n k = (w : ℕ) × HasTerminal nets k w × IsInside m n w

-- so, and k is below the count
abbrev pub TouchesOf : Shape → List (List ℕ) → ℕ → ℕ → ℕ → Type 0
TouchesOf m nets count n k = (k < count) × Touches m nets n k

abbrev pub is_last : List ℕ → ℕ → Bool
is_last ks k = nat_lt 0 (length ks) && (slice_index_or ks (length ks - 1) 0 == k)

-- the list with the number at its end
abbrev pub with_last : List ℕ → ℕ → List ℕ
with_last ks k = if is_last ks k then ks else ks ++ k ∷ []

-- the net is at the end of the lists of those nodes that have one of the wires inside, and the others are as they were
pub record IsSpread (m : Shape) (wires : List ℕ) (net : ℕ) (old new : List (List ℕ)) : Type 0 where
  pub sized : length new ≡ length old
  pub here : (n w : ℕ) → n < length old → Contains wires w → IsInside m n w → list_at new n ≡ with_last (list_at old n) net
  pub others : (n : ℕ) → n < length old → ((w : ℕ) → Contains wires w → ¬ IsInside m n w) → list_at new n ≡ list_at old n

-- so it is up to node a, on the way up from the node home
pub record IsSpreadUp (m : Shape) (home a net : ℕ) (old new : List (List ℕ)) : Type 0 where
  pub sized : length new ≡ length old
  pub within : a < length old
  pub reached : IsAbove m a home
  pub here : (n : ℕ) → n < length old → IsAbove m n home → (IsAbove m n a → n ≡ a) → list_at new n ≡ with_last (list_at old n) net
  pub above : (n : ℕ) → n < length old → IsAbove m n a → n ≢ a → list_at new n ≡ list_at old n
  pub others : (n : ℕ) → n < length old → ¬ IsAbove m n home → list_at new n ≡ list_at old n

-- each node's list has those of the first nets that touch it
abbrev pub AreTouched : Shape → List (List ℕ) → ℕ → List (List ℕ) → Type 0
AreTouched m nets count ts = AreLists (nodes_of m) (TouchesOf m nets count) ts
