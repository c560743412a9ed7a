-- The words on a machine's shape that the other definitions use. No proof above looks into the
-- numbering: beside this crate, only the proof of the built-in bench machine opens these words by
-- `unfolding`, to count what is in it.
use Rattle.std.specs.Prelude.{◌≡◌, ℕ, zero, suc, ◌+◌, ◌*◌, ◌/◌, ◌%◌, ◌<◌, Option, Some, None, if◌then◌else◌, nat_lt, [], ◌∷◌}
use Rattle.machine_shape.specs.{declared.Shape.Shape, Counts.levels_from}
use Rattle.machine_shape.specs.Walk.{Levels, Path, Place, rest, size, start, place_in, above, ports_in, lines_in, wires_in, taps_in, crosses_in}
use Rattle.machine_shape.specs.Walk.{nodes_in, tables_in, trunk, tap_in}

unfoldable pub levels_of : Shape → Levels
levels_of m = levels_from m.counts

-- how many there are
unfoldable pub wires_of : Shape → ℕ
wires_of m = size wires_in (levels_of m)

unfoldable pub crosses_of : Shape → ℕ
crosses_of m = size crosses_in (levels_of m)

unfoldable pub nodes_of : Shape → ℕ
nodes_of m = size nodes_in (levels_of m)

unfoldable pub tables_of : Shape → ℕ
tables_of m = size tables_in (levels_of m)

unfoldable pub pins_of : Shape → ℕ
pins_of m = ports_in (levels_of m)

-- the way to a node or table, and the number of the node at the end of a way
unfoldable pub way_to : Shape → ℕ → Path
way_to m n = (place_in nodes_in (levels_of m) n).path

unfoldable pub way_to_table : Shape → ℕ → Path
way_to_table m t = (place_in tables_in (levels_of m) t).path

unfoldable pub node_at : Shape → Path → ℕ
node_at m p = start nodes_in (levels_of m) p

-- the place of a wire and of a crosspoint
unfoldable pub place_of : Shape → ℕ → Place
place_of m w = place_in wires_in (levels_of m) w

unfoldable pub place_of_cross : Shape → ℕ → Place
place_of_cross m x = place_in crosses_in (levels_of m) x

-- The ports, lines and taps of a node. The machine's pins stand first among the root's taps, where another
-- node has its ports.
unfoldable pub ports_of : Shape → ℕ → ℕ
ports_of m n = ports_in (rest (levels_of m) (way_to m n))

-- how many ports a node has of its own: the root has none
unfoldable pub own_ports_of : Shape → ℕ → ℕ
own_ports_of m zero = 0
own_ports_of m (suc n) = ports_of m (suc n)

unfoldable pub lines_of : Shape → ℕ → ℕ
lines_of m n = lines_in (rest (levels_of m) (way_to m n))

unfoldable pub taps_of : Shape → ℕ → ℕ
taps_of m n = taps_in (rest (levels_of m) (way_to m n))

-- the wire of a pin of the machine
unfoldable pub pin_wire : Shape → ℕ → ℕ
pin_wire m k = k

-- the wire of a table's pin: inputs are 0 to 5, the output is 6
unfoldable pub table_wire : Shape → ℕ → ℕ → ℕ
table_wire m t k = start wires_in (levels_of m) (way_to_table m t) + k

-- the wires of a node, by position: its ports, its lines, and the taps of its crossbar
unfoldable pub port_at : Shape → ℕ → ℕ → ℕ
port_at m n k = start wires_in (levels_of m) (way_to m n) + k

unfoldable pub line_at : Shape → ℕ → ℕ → ℕ
line_at m n k = start wires_in (levels_of m) (way_to m n) + (ports_of m n + k)

unfoldable pub tap_at : Shape → ℕ → ℕ → ℕ
tap_at m n a = tap_in (levels_of m) (way_to m n) a

-- the crosspoint of a tap and a line of a node, by their positions, and back the tap and the line of a crosspoint
unfoldable pub cross_at : Shape → ℕ → ℕ → ℕ → ℕ
cross_at m n a b = start crosses_in (levels_of m) (way_to m n) + (a * lines_of m n + b)

unfoldable pub node_of_cross : Shape → ℕ → ℕ
node_of_cross m x = node_at m (place_of_cross m x).path

unfoldable pub tap_position : Shape → ℕ → ℕ
tap_position m x = (place_of_cross m x).position / lines_of m (node_of_cross m x)

unfoldable pub line_position : Shape → ℕ → ℕ
line_position m x = (place_of_cross m x).position % lines_of m (node_of_cross m x)

unfoldable pub ends_of : Shape → ℕ → ℕ × ℕ
ends_of m x = (tap_at m (node_of_cross m x) (tap_position m x), line_at m (node_of_cross m x) (line_position m x))

-- the node of a wire, to which a table's pins belong by its hextant, and the hextant of a table
unfoldable pub node_of : Shape → ℕ → ℕ
node_of m w = node_at m (trunk (levels_of m) (place_of m w).path)

unfoldable pub hextant_of : Shape → ℕ → ℕ
hextant_of m t = node_at m (trunk (levels_of m) (way_to_table m t))

-- the lines and the ports of a node; the root has no ports
unfoldable pub IsLine : Shape → ℕ → ℕ → Type 0
IsLine m n w = (n < nodes_of m) × ((k : ℕ) × (k < lines_of m n) × (w ≡ line_at m n k))

unfoldable pub IsPort : Shape → ℕ → ℕ → Type 0
IsPort m n w = (0 < n) × (n < nodes_of m) × ((k : ℕ) × (k < ports_of m n) × (w ≡ port_at m n k))

-- the node above a node, of which the root has none
abbrev pub parent_in : Shape → Path → Option ℕ
parent_in m [] = None
parent_in m (i ∷ p) = Some (node_at m (above (i ∷ p)))

unfoldable pub parent_of : Shape → ℕ → Option ℕ
parent_of m n = if nat_lt n (nodes_of m) then parent_in m (way_to m n) else None

-- what a wire is
pub data Meaning : Type 0 where
  Pin : (k : ℕ) → Meaning
  Line : (n k : ℕ) → Meaning
  Port : (n k : ℕ) → Meaning
  TablePin : (t k : ℕ) → Meaning

pub data Means (m : Shape) (w : ℕ) : Meaning → Type 0 where
  is_pin : (k : ℕ) → k < pins_of m → w ≡ pin_wire m k → Means m w (Pin k)
  is_line : (n k : ℕ) → n < nodes_of m → k < lines_of m n → w ≡ line_at m n k → Means m w (Line n k)
  is_port : (n k : ℕ) → 0 < n → n < nodes_of m → k < ports_of m n → w ≡ port_at m n k → Means m w (Port n k)
  is_table_pin : (t k : ℕ) → t < tables_of m → k < 7 → w ≡ table_wire m t k → Means m w (TablePin t k)

-- the taps of a node's crossbar: the machine's pins at the root, its ports, the ports of its children, and the pins of its tables
pub data IsTap (m : Shape) (n w : ℕ) : Type 0 where
  tap_pin : (k : ℕ) → n ≡ 0 → k < pins_of m → w ≡ pin_wire m k → IsTap m n w
  tap_port : IsPort m n w → IsTap m n w
  tap_child : (c : ℕ) → parent_of m c ≡ Some n → IsPort m c w → IsTap m n w
  tap_table : (t k : ℕ) → t < tables_of m → hextant_of m t ≡ n → k < 7 → w ≡ table_wire m t k → IsTap m n w

-- the second is the first, or below it
pub data IsAbove (m : Shape) (n : ℕ) : ℕ → Type 0 where
  itself : IsAbove m n n
  below : {p k : ℕ} → IsAbove m n p → parent_of m k ≡ Some p → IsAbove m n k

-- the two wires are the ends of the pair
pub data Ends (p : ℕ × ℕ) (a b : ℕ) : Type 0 where
  in_order : p.0 ≡ a → p.1 ≡ b → Ends p a b
  turned : p.0 ≡ b → p.1 ≡ a → Ends p a b
