-- What later crates rest on, of the numbering.
use Rattle.std.specs.Prelude.{◌≡◌, ◌≢◌, ◌⊎◌, ℕ, suc, ◌<◌, Some, None, [], ◌∷◌, ◌++◌}
use Rattle.machine_shape.specs.declared.Shape.{Shape}
use Rattle.machine_shape.specs.{declared.Counts.Counts, Names.numbered, Names.node_name, Names.table_name, Names.wire_name}
use Rattle.machine_shape.specs.Shape.{Ends, ends_of, pin_wire, table_wire, wires_of, crosses_of, nodes_of, tables_of, pins_of, node_of}
use Rattle.machine_shape.specs.Shape.{parent_of, IsLine, IsPort, IsAbove, Meaning, Means, IsTap, taps_of, lines_of, ports_of, tap_at, line_at}
use Rattle.machine_shape.specs.Shape.{cross_at, node_of_cross, tap_position, line_position, port_at, hextant_of}

-- the numbers of pins are numbers of wires, and all are different
pub record IsNumbered (m : Shape) : Type 0 where
  pub ends : (x a b : ℕ) → x < crosses_of m → Ends (ends_of m x) a b → a < wires_of m
  pub pins : (k : ℕ) → k < pins_of m → pin_wire m k < wires_of m
  pub tables : (t k : ℕ) → t < tables_of m → k < 7 → table_wire m t k < wires_of m
  pub pins_apart : (k l : ℕ) → k < pins_of m → l < pins_of m → pin_wire m k ≡ pin_wire m l → k ≡ l
  pub tables_apart : (t u k l : ℕ) → t < tables_of m → u < tables_of m → k < 7 → l < 7 → table_wire m t k ≡ table_wire m u l → (t ≡ u)
      × (k ≡ l)
  pub no_pin_is_table : (k t l : ℕ) → k < pins_of m → t < tables_of m → l < 7 → pin_wire m k ≢ table_wire m t l

-- what of the numbering makes a tree of crossbars
pub record IsTree (m : Shape) : Type 0 where
  pub depth : ℕ → ℕ
  pub deeper : (c n : ℕ) → parent_of m c ≡ Some n → depth c ≡ suc (depth n)
  pub line_node : (n w : ℕ) → IsLine m n w → node_of m w ≡ n
  pub port_node : (n w : ℕ) → IsPort m n w → node_of m w ≡ n
  pub no_line_is_port : (n k w : ℕ) → IsLine m n w → IsPort m k w → ⊥
  pub no_pin_is_line : (k n : ℕ) → k < pins_of m → IsLine m n (pin_wire m k) → ⊥
  pub no_pin_is_port : (k n : ℕ) → k < pins_of m → IsPort m n (pin_wire m k) → ⊥
  pub no_table_is_line : (t k n : ℕ) → t < tables_of m → k < 7 → IsLine m n (table_wire m t k) → ⊥
  pub no_table_is_port : (t k n : ℕ) → t < tables_of m → k < 7 → IsPort m n (table_wire m t k) → ⊥
  pub below : (w : ℕ) → w < wires_of m → IsAbove m 0 (node_of m w)

-- each number of a wire has one meaning
pub record HasMeanings (m : Shape) : Type 0 where
  pub within : (w : ℕ) (x : Meaning) → Means m w x → w < wires_of m
  pub some : (w : ℕ) → w < wires_of m → (x : Meaning) × Means m w x
  pub one : (w : ℕ) (x y : Meaning) → Means m w x → Means m w y → x ≡ y

-- positions and taps are one to one, and their order is that of the numbers of wires
pub record HasTaps (m : Shape) : Type 0 where
  pub is_tap : (n a : ℕ) → n < nodes_of m → a < taps_of m n → IsTap m n (tap_at m n a)
  pub has_position : (n w : ℕ) → n < nodes_of m → IsTap m n w → (a : ℕ) × (a < taps_of m n) × (tap_at m n a ≡ w)
  pub ascend : (n a b : ℕ) → n < nodes_of m → a < b → b < taps_of m n → tap_at m n a < tap_at m n b
  pub within : (n a : ℕ) → n < nodes_of m → a < taps_of m n → tap_at m n a < wires_of m

-- crosspoints, and the taps and lines of one crossbar, are one to one
pub record HasCrosses (m : Shape) : Type 0 where
  pub node : (x : ℕ) → x < crosses_of m → node_of_cross m x < nodes_of m
  pub tap : (x : ℕ) → x < crosses_of m → tap_position m x < taps_of m (node_of_cross m x)
  pub line : (x : ℕ) → x < crosses_of m → line_position m x < lines_of m (node_of_cross m x)
  pub back : (x : ℕ) → x < crosses_of m → cross_at m (node_of_cross m x) (tap_position m x) (line_position m x) ≡ x
  pub within : (n a b : ℕ) → n < nodes_of m → a < taps_of m n → b < lines_of m n → cross_at m n a b < crosses_of m
  pub at_node : (n a b : ℕ) → n < nodes_of m → a < taps_of m n → b < lines_of m n → node_of_cross m (cross_at m n a b) ≡ n
  pub ends : (n a b : ℕ) → n < nodes_of m → a < taps_of m n → b < lines_of m n →
      ends_of m (cross_at m n a b) ≡ (tap_at m n a, line_at m n b)
  pub one : (x y : ℕ) → x < crosses_of m → y < crosses_of m → ends_of m x ≡ ends_of m y → x ≡ y

-- each crosspoint has a tap and a line of its node, and a tap and a line of one node have a crosspoint
pub record HasMeetings (m : Shape) : Type 0 where
  pub line_within : (n w : ℕ) → IsLine m n w → n < nodes_of m
  pub port_within : (n w : ℕ) → IsPort m n w → (0 < n) × (n < nodes_of m)
  pub tap : (x : ℕ) → x < crosses_of m → IsTap m (node_of_cross m x) (ends_of m x).0
  pub line : (x : ℕ) → x < crosses_of m → IsLine m (node_of_cross m x) (ends_of m x).1
  pub meet : (n t l : ℕ) → IsTap m n t → IsLine m n l → (x : ℕ) × (x < crosses_of m) × (ends_of m x ≡ (t, l)) × (node_of_cross m x ≡ n)

-- the nodes: the root is 0 and has no node above it, and a node comes before its children
pub record HasParents (m : Shape) : Type 0 where
  pub root : parent_of m 0 ≡ None
  pub others : (c : ℕ) → 0 < c → c < nodes_of m → (n : ℕ) × (parent_of m c ≡ Some n)
  pub before : (c n : ℕ) → parent_of m c ≡ Some n → n < c
  pub within : (c n : ℕ) → parent_of m c ≡ Some n → c < nodes_of m
  pub node_within : (w : ℕ) → w < wires_of m → node_of m w < nodes_of m
  pub hextant_within : (t : ℕ) → t < tables_of m → hextant_of m t < nodes_of m
  pub table_node : (t k : ℕ) → t < tables_of m → k < 7 → node_of m (table_wire m t k) ≡ hextant_of m t
  pub pin_node : (k : ℕ) → k < pins_of m → node_of m (pin_wire m k) ≡ 0

-- each wire is a tap or a line of its node, and none is both; a crosspoint of a line is of the line's node
pub record HasHomes (m : Shape) : Type 0 where
  pub home : (w : ℕ) → w < wires_of m → IsTap m (node_of m w) w ⊎ IsLine m (node_of m w) w
  pub tap_node : (n w : ℕ) → IsTap m n w → n < nodes_of m
  pub no_tap_is_line : (n k w : ℕ) → IsTap m n w → IsLine m k w → ⊥
  pub cross_of_line : (n l x : ℕ) → x < crosses_of m → (ends_of m x).1 ≡ l → IsLine m n l → node_of_cross m x ≡ n

-- What wires are called, by what they are. Names and numbers are one to one.
pub record HasNames (m : Shape) : Type 0 where
  pub root : node_name m 0 ≡ 114 ∷ []
  pub pin : (k : ℕ) → k < pins_of m → wire_name m (pin_wire m k) ≡ node_name m 0 ++ 46 ∷ numbered 112 k
  pub line : (n k : ℕ) → n < nodes_of m → k < lines_of m n → wire_name m (line_at m n k) ≡ node_name m n ++ 46 ∷ numbered 108 k
  pub port : (n k : ℕ) → 0 < n → n < nodes_of m → k < ports_of m n → wire_name m (port_at m n k) ≡ node_name m n ++ 46 ∷ numbered 111 k
  pub input : (t k : ℕ) → t < tables_of m → k < 6 → wire_name m (table_wire m t k) ≡ table_name m t ++ 46 ∷ numbered 105 k
  pub output : (t : ℕ) → t < tables_of m → wire_name m (table_wire m t 6) ≡ table_name m t ++ 46 ∷ 113 ∷ []
  pub one_wire : (w u : ℕ) → w < wires_of m → u < wires_of m → wire_name m w ≡ wire_name m u → w ≡ u
  pub one_table : (t u : ℕ) → t < tables_of m → u < tables_of m → table_name m t ≡ table_name m u → t ≡ u
  pub one_node : (n k : ℕ) → n < nodes_of m → k < nodes_of m → node_name m n ≡ node_name m k → n ≡ k

-- a small machine: one module, chip and hextant, of two tables, and 4 of each port, line and pin
abbrev pub tiny : Counts
tiny = record { modules = 1; chips = 1; hextants = 1; tables = 2; ports = 4 ∷ 4 ∷ 4 ∷ []; lines = 4 ∷ 4 ∷ 4 ∷ 4 ∷ []; pins = 4 }

-- the numbers that the walk gives it
pub record IsNumberedAsTiny (m : Shape) : Type 0 where
  pub wires : wires_of m ≡ 46
  pub nodes : nodes_of m ≡ 4
  pub crosses : crosses_of m ≡ 168
  pub root_line : line_at m 0 0 ≡ 4
  pub module_port : port_at m 1 0 ≡ 8
  pub module_line : line_at m 1 0 ≡ 12
  pub chip_port : port_at m 2 0 ≡ 16
  pub hextant_port : port_at m 3 0 ≡ 24
  pub hextant_line : line_at m 3 0 ≡ 28
  pub first_table : table_wire m 0 0 ≡ 32
  pub last_pin : table_wire m 1 6 ≡ 45
  pub root_cross : cross_at m 0 0 0 ≡ 0
  pub module_cross : cross_at m 1 0 0 ≡ 32
  pub chip_cross : cross_at m 2 0 0 ≡ 64
  pub hextant_cross : cross_at m 3 0 0 ≡ 96
  pub first_ends : ends_of m 96 ≡ (24, 28)
  pub last_ends : ends_of m 167 ≡ (45, 31)
  pub parent : parent_of m 3 ≡ Some 2
  pub node : node_of m 45 ≡ 3
