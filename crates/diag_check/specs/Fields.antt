-- What a field gets, by steps.
use Rattle.std.specs.Prelude.{◌≡◌, ℕ, ◌+◌, ◌*◌, ◌<◌, ◌≤◌, Bool, true, Some, List, All, length, slice_get, Contains}
use Rattle.base_bits.specs.Numbers.{has_number, size_of}
use Rattle.machine_shape.specs.declared.{Shape.Shape, Cross.Cross, Wire.Wire}
use Rattle.machine_shape.specs.Shape.{wires_of, crosses_of, nodes_of, ends_of, node_of, parent_of}
use Rattle.machine_config.specs.Configuration.{is_closed}
use Rattle.machine_image.specs.Images.{ImageValue}
use Rattle.diag_known.specs.declared.field.Field.{Field}
use Rattle.diag_check.specs.{Picked.IsAmong, declared.picks.Frame.Frame, declared.picks.Picks.Picks}

-- a crosspoint of this tap and this line
pub record IsCrossOf (m : Shape) (t l x : ℕ) : Type 0 where
  pub within : x < crosses_of m
  pub tap : (ends_of m x).0 ≡ t
  pub line : (ends_of m x).1 ≡ l

-- of a tap and one of the first n lines
pub record IsOnLines (m : Shape) (tap : ℕ) (lines : List Wire) (n x : ℕ) : Type 0 where
  pub place : ℕ
  pub line : Wire
  pub early : place < n
  pub here : slice_get lines place ≡ Some line
  pub cross : IsCrossOf m tap line.0 x

-- of one of the first n taps and a line
pub record IsOnTaps (m : Shape) (taps : List Wire) (line n x : ℕ) : Type 0 where
  pub place : ℕ
  pub tap : Wire
  pub early : place < n
  pub here : slice_get taps place ≡ Some tap
  pub cross : IsCrossOf m tap.0 line x

-- of one of the first n taps and one of the lines
pub record IsBetween (m : Shape) (taps lines : List Wire) (n x : ℕ) : Type 0 where
  pub place : ℕ
  pub tap : Wire
  pub early : place < n
  pub here : slice_get taps place ≡ Some tap
  pub cross : IsOnLines m tap.0 lines (length lines) x

-- one of the first n of these crosspoints
pub record IsCrossBefore (crosses : List Cross) (n x : ℕ) : Type 0 where
  pub place : ℕ
  pub cross : Cross
  pub early : place < n
  pub here : slice_get crosses place ≡ Some cross
  pub is : cross.0 ≡ x

-- wires of the machine, at most so many of each side
pub record IsPicksOf (m : Shape) (most : ℕ) (p : Picks) : Type 0 where
  pub own : All (λ w. w.0 < wires_of m) p.own.items
  pub lines : All (λ w. w.0 < wires_of m) p.lines.items
  pub few_own : length p.own.items ≤ most
  pub few_lines : length p.lines.items ≤ most

-- for each node
pub record ArePicksOf (m : Shape) (f : Frame) : Type 0 where
  pub len : length f.picks.items ≡ nodes_of m
  pub each : (k : ℕ) (p : Picks) → slice_get f.picks.items k ≡ Some p → IsPicksOf m f.most p

-- a wire of one of the two lists
pub data IsOfEither (p : Picks) (w : ℕ) : Type 0 where
  of_own : IsAmong p.own.items w → IsOfEither p w
  of_lines : IsAmong p.lines.items w → IsOfEither p w

-- a wire picked of this node
pub record IsPickOf (picks : List Picks) (k w : ℕ) : Type 0 where
  pub picks_here : Picks
  pub here : slice_get picks k ≡ Some picks_here
  pub is : IsOfEither picks_here w

-- a crosspoint of a picked port of this node with a picked line of it, or of the node above
pub data IsJointOf (m : Shape) (picks : List Picks) (k x : ℕ) : Type 0 where
  own_joint : (p : Picks) → slice_get picks k ≡ Some p → IsBetween m p.own.items p.lines.items (length p.own.items) x →
      IsJointOf m picks k x
  up_joint : (p q : Picks) (n : ℕ) → slice_get picks k ≡ Some p → parent_of m k ≡ Some n → slice_get picks n ≡ Some q →
      IsBetween m p.own.items q.lines.items (length p.own.items) x → IsJointOf m picks k x

-- of one of the first n nodes that are marked
pub record OfMarked (marks : List Bool) (these : ℕ → ℕ → Type 0) (n w : ℕ) : Type 0 where
  pub place : ℕ
  pub early : place < n
  pub marked : has_number marks place ≡ true
  pub is : these place w

-- a crosspoint of the wire with one of the lines, or one of the ports
pub data IsHungAt (m : Shape) (p : Picks) (w x : ℕ) : Type 0 where
  on_line : IsOnLines m w p.lines.items (length p.lines.items) x → IsHungAt m p w x
  on_port : IsOnTaps m p.own.items w (length p.own.items) x → IsHungAt m p w x

-- of those that are picked of the wire's node
pub record IsHungOn (m : Shape) (picks : List Picks) (w x : ℕ) : Type 0 where
  pub picks_here : Picks
  pub here : slice_get picks (node_of m w) ≡ Some picks_here
  pub is : IsHungAt m picks_here w x

-- of each involved node at most so many ports and lines, and the crosspoints that these and the used wires have with them; and closed
-- crosspoints
pub record IsFewFor (i : ImageValue) (nodes used : List Bool) (most : ℕ) (a : Field) : Type 0 where
  pub wires : size_of a.wires ≤ 2 * most * size_of nodes + size_of used
  pub crosses : (xs : List ℕ) → ((x : ℕ) → is_closed i.config x ≡ true → Contains xs x) →
      size_of a.crosses ≤ 2 * most * most * size_of nodes + 2 * most * size_of used + length xs
