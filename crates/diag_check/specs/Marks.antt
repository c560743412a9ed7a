-- Marks that are added to others.
use Rattle.std.specs.Prelude.{◌≡◌, ◌⊎◌, ℕ, ◌<◌, ◌≤◌, Bool, true, Some, List, length, slice_index, slice_get}
use Rattle.base_bits.specs.Numbers.{has_number}
use Rattle.machine_shape.specs.declared.{Shape.Shape, Cross.Cross, Table.Table}
use Rattle.machine_shape.specs.Shape.{pin_wire, table_wire, ends_of, node_of, node_of_cross, parent_of, IsAbove}

-- what was marked still is, and so is each of these numbers; and nothing else is
pub record Adds (these : ℕ → Type 0) (old new : List Bool) : Type 0 where
  pub len : length new ≡ length old
  pub stays : (w : ℕ) → has_number old w ≡ true → has_number new w ≡ true
  pub all : (w : ℕ) → these w → has_number new w ≡ true
  pub only : (w : ℕ) → has_number new w ≡ true → (has_number old w ≡ true) ⊎ these w

-- one of the first n wires by this numbering
pub record IsAmongFirst (wire_at : ℕ → ℕ) (n w : ℕ) : Type 0 where
  pub place : ℕ
  pub early : place < n
  pub wire : w ≡ wire_at place

-- one of the first n of these pins of the machine
abbrev pub IsPinAmong : Shape → List ℕ → ℕ → ℕ → Type 0
IsPinAmong m pins = IsAmongFirst (λ j. pin_wire m (slice_index pins j))

-- an end of one of the first n of these crosspoints
pub data IsEndAmong (m : Shape) (crosses : List Cross) (n w : ℕ) : Type 0 where
  tap_among : (j : ℕ) (x : Cross) → j < n → slice_get crosses j ≡ Some x → w ≡ (ends_of m x.0).0 → IsEndAmong m crosses n w
  line_among : (j : ℕ) (x : Cross) → j < n → slice_get crosses j ≡ Some x → w ≡ (ends_of m x.0).1 → IsEndAmong m crosses n w

-- one of the first n pins of a table
abbrev pub IsPinOfTable : Shape → ℕ → ℕ → ℕ → Type 0
IsPinOfTable m t = IsAmongFirst (table_wire m t)

-- a pin of one of the first n of these tables
pub record IsTablePinAmong (m : Shape) (tables : List Table) (n w : ℕ) : Type 0 where
  pub place : ℕ
  pub table : Table
  pub early : place < n
  pub here : slice_get tables place ≡ Some table
  pub pin : IsPinOfTable m table.0 7 w

-- the node of one of the first n wires that are marked
pub record IsNodeAmong (m : Shape) (used : List Bool) (n node : ℕ) : Type 0 where
  pub wire : ℕ
  pub early : wire < n
  pub marked : has_number used wire ≡ true
  pub is : node ≡ node_of m wire

-- Marked are these nodes and some that are above one of them, among them the node above each one that is marked and isn't before
-- the place.
pub record Rises (m : Shape) (nodes marks : List Bool) (place : ℕ) : Type 0 where
  pub len : length marks ≡ length nodes
  pub stays : (n : ℕ) → has_number nodes n ≡ true → has_number marks n ≡ true
  pub above : (n : ℕ) → has_number marks n ≡ true → (c : ℕ) × (has_number nodes c ≡ true) × IsAbove m n c
  pub up : (c p : ℕ) → place ≤ c → has_number marks c ≡ true → parent_of m c ≡ Some p → has_number marks p ≡ true

-- a crosspoint of a marked node between two marked wires
pub record IsNearCross (m : Shape) (nodes wires : List Bool) (x : ℕ) : Type 0 where
  pub node : has_number nodes (node_of_cross m x) ≡ true
  pub tap : has_number wires (ends_of m x).0 ≡ true
  pub line : has_number wires (ends_of m x).1 ≡ true

-- one of the first n
pub record IsNearBefore (m : Shape) (nodes wires : List Bool) (n x : ℕ) : Type 0 where
  pub early : x < n
  pub near : IsNearCross m nodes wires x
