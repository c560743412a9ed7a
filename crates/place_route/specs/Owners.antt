-- Which net has a wire, and which line a net has at a node, as the code keeps them.
use Rattle.std.specs.Prelude.{◌≡◌, ◌⊎◌, ℕ, List, length, slice_index_or, Option, Some, None, IsSome}
use Rattle.std.specs.{List.Contains, BTreeMap.BTreeMap}
use Rattle.std.specs.BTreeMap as tree
use Rattle.machine_shape.specs.{declared.Shape.Shape, Shape.wires_of}
use Rattle.machine_meaning.specs.Faults.{pair_cmp}
use Rattle.place_plan.specs.{declared.short.Port.Port, declared.short.Visit.Visit, Room.HasTerminal, Room.port_for, Room.visit_for}

-- the net that has the wire
abbrev pub owner_at : List (Option ℕ) → ℕ → Option ℕ
owner_at owners w = slice_index_or owners w None

-- The wires that nets claim are given to one that claims them. Of the others nothing changes.
pub record IsMarked (claims : ℕ → ℕ → Type 0) (old new : List (Option ℕ)) : Type 0 where
  pub sized : length new ≡ length old
  pub only : (w k : ℕ) → owner_at new w ≡ Some k → (owner_at old w ≡ Some k) ⊎ claims k w
  pub each : (k w : ℕ) → claims k w → (l : ℕ) × (owner_at new w ≡ Some l) × claims l w
  pub kept : (k w : ℕ) → owner_at old w ≡ Some k → (l : ℕ) × (owner_at new w ≡ Some l) × ((l ≡ k) ⊎ claims l w)

-- this net claims these wires
abbrev pub IsClaimedBy : ℕ → List ℕ → ℕ → ℕ → Type 0
IsClaimedBy net wires k w = (k ≡ net) × Contains wires w

-- a net has the wire as a port, and as a terminal or a port
abbrev pub HoldsPort : List Port → ℕ → ℕ → Type 0
HoldsPort ports k w = (n : ℕ) × Contains ports (port_for n k w)

abbrev pub Holds : List (List ℕ) → List Port → ℕ → ℕ → Type 0
Holds nets ports k w = HasTerminal nets k w ⊎ HoldsPort ports k w

pub record AreOwners (m : Shape) (nets : List (List ℕ)) (ports : List Port) (owners : List (Option ℕ)) : Type 0 where
  pub sized : length owners ≡ wires_of m
  pub only : (w k : ℕ) → owner_at owners w ≡ Some k → Holds nets ports k w
  pub each : (k w : ℕ) → Holds nets ports k w → (l : ℕ) × (owner_at owners w ≡ Some l) × Holds nets ports l w

-- the net has the line at the node
abbrev pub HasLine : List Visit → ℕ → ℕ → ℕ → Type 0
HasLine visits n k w = Contains visits (visit_for n k w)

-- a map of lines, by node and net
abbrev pub line_in : BTreeMap (ℕ × ℕ) ℕ → ℕ → ℕ → Option ℕ
line_in lines n k = tree.get pair_cmp lines (n, k)

-- its lines are those of the visits
pub record AreLines (visits : List Visit) (lines : BTreeMap (ℕ × ℕ) ℕ) : Type 0 where
  pub only : (n k w : ℕ) → line_in lines n k ≡ Some w → HasLine visits n k w
  pub each : (n k w : ℕ) → HasLine visits n k w → IsSome (line_in lines n k)

-- the map has the visit's line, and is otherwise as it was
pub record IsPut (v : Visit) (old new : BTreeMap (ℕ × ℕ) ℕ) : Type 0 where
  pub here : line_in new v.node.0 v.net.0 ≡ Some v.line.0
  pub others : (n k : ℕ) → ((n ≡ v.node.0) × (k ≡ v.net.0)) ⊎ (line_in new n k ≡ line_in old n k)
