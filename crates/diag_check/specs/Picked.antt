-- Some wires of the two sides of a node's crossbar.
use Rattle.std.specs.Prelude.{◌≡◌, ◌≢◌, ℕ, zero, suc, ◌<◌, ◌≤◌, Bool, if◌then◌else◌, Some, List, length, slice_get}
use Rattle.base_bits.specs.Numbers.{has_number}
use Rattle.machine_shape.specs.declared.{Shape.Shape, Wire.Wire}
use Rattle.machine_shape.specs.Shape.{wires_of, pins_of, own_ports_of, lines_of, pin_wire, port_at, line_at}
use Rattle.diag_check.specs.declared.picks.{Side.Side, Side.TheVariants.Own, Side.TheVariants.Lines, Picks.Picks}

-- how many wires a node has on a side: its lines, or its own ports, for which the root has the pins of the machine
abbrev pub width_of : Shape → Side → ℕ → ℕ
width_of m Own zero = pins_of m
width_of m Own (suc n) = own_ports_of m (suc n)
width_of m Lines n = lines_of m n

-- the wire at a position
abbrev pub side_wire : Shape → Side → ℕ → ℕ → ℕ
side_wire m Own zero k = pin_wire m k
side_wire m Own (suc n) k = port_at m (suc n) k
side_wire m Lines n k = line_at m n k

-- one of these wires
pub record IsAmong (ws : List Wire) (w : ℕ) : Type 0 where
  pub place : ℕ
  pub wire : Wire
  pub here : slice_get ws place ≡ Some wire
  pub is : wire.0 ≡ w

-- a wire of a side of the node
pub record IsOfSide (m : Shape) (side : Side) (n w : ℕ) : Type 0 where
  pub position : ℕ
  pub within : position < width_of m side n
  pub is : w ≡ side_wire m side n position
  pub below : w < wires_of m

-- different wires of a side of the node
pub record AreOfSide (m : Shape) (side : Side) (n : ℕ) (ws : List Wire) : Type 0 where
  pub each : (j : ℕ) (w : Wire) → slice_get ws j ≡ Some w → IsOfSide m side n w.0
  pub differ : (i j : ℕ) (w u : Wire) → slice_get ws i ≡ Some w → slice_get ws j ≡ Some u → i < j → w.0 ≢ u.0

-- two different wires at the first two places
pub record HasFirstTwo (ws : List Wire) : Type 0 where
  pub one : Wire
  pub two : Wire
  pub first : slice_get ws 0 ≡ Some one
  pub second : slice_get ws 1 ≡ Some two
  pub differ : one.0 ≢ two.0

-- at most so many; two, where there are two
pub record ArePicked (m : Shape) (side : Side) (n most : ℕ) (ws : List Wire) : Type 0 where
  pub of_side : AreOfSide m side n ws
  pub few : length ws ≤ most
  pub two : 2 ≤ most → 2 ≤ width_of m side n → HasFirstTwo ws

-- of both sides of the node
pub record IsPickedAt (m : Shape) (n most : ℕ) (p : Picks) : Type 0 where
  pub own : ArePicked m Own n most p.own.items
  pub lines : ArePicked m Lines n most p.lines.items

-- of each of the first n nodes, where it is marked; and of the others none
pub record ArePickedUpTo (m : Shape) (nodes : List Bool) (most n : ℕ) (picks : List Picks) : Type 0 where
  pub len : length picks ≡ n
  pub each : (k : ℕ) (p : Picks) → slice_get picks k ≡ Some p → IsPickedAt m k (if has_number nodes k then most else 0) p
