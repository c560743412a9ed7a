-- Room for nets: the ports and lines that they want at each node, and which resource is the first short one.
--
-- The nets are those with numbers below a count; `terminal k` says which wires are the terminals of net k.
use Rattle.std.specs.Prelude.{◌≡◌, ◌≢◌, ℕ, ◌<◌, ◌≤◌, Some, List, [], length, slice_index_or}
use Rattle.std.specs.List.{All, AllPairs, Contains}
use Rattle.machine_shape.specs.declared.Shape.{Shape}
use Rattle.machine_shape.specs.Shape.{nodes_of, crosses_of, ends_of, node_of, parent_of, IsLine, IsPort}
use Rattle.machine_meaning.specs.Defects.{Defects, IsFreeWire, IsFreeCross}
use Rattle.place_plan.specs.declared.short.{Need.Need, Port.Port, Visit.Visit}
use Rattle.place_plan.specs.declared.short.Resource.{Resource, TheVariants.Tables, TheVariants.Pins, TheVariants.Ports, TheVariants.Lines}
use Rattle.place_plan.specs.{declared.short.Short.Short, Lists.AreThose, Lists.IsNth, Strands.Crosses, Strands.Visits}

-- a net and the line that it gets
pub record Pick : Type 0 where
  pub net : ℕ
  pub line : ℕ

-- the port w of node n as that of net k
abbrev pub port_for : ℕ → ℕ → ℕ → Port
port_for n k w = record { node = record { 0 = n }; net = record { 0 = k }; wire = record { 0 = w } }

-- the line w of node n as that of net k
abbrev pub visit_for : ℕ → ℕ → ℕ → Visit
visit_for n k w = record { node = record { 0 = n }; net = record { 0 = k }; line = record { 0 = w } }

-- the wire is one of these
abbrev pub IsAmong : List ℕ → ℕ → Type 0
IsAmong ws w = Contains ws w

-- the wire is a terminal of net k, by the list of each net's terminals
abbrev pub HasTerminal : List (List ℕ) → ℕ → ℕ → Type 0
HasTerminal nets k w = Contains (slice_index_or nets k []) w

-- by that list, net k crosses the node
abbrev pub CrossesIn : Shape → List (List ℕ) → ℕ → ℕ → Type 0
CrossesIn m nets n k = Crosses m (HasTerminal nets k) n

-- the nets that cross and that visit a node
abbrev pub CrossesAt : Shape → ℕ → (ℕ → ℕ → Type 0) → ℕ → ℕ → Type 0
CrossesAt m count terminal n k = (k < count) × Crosses m (terminal k) n

abbrev pub VisitsAt : Shape → ℕ → (ℕ → ℕ → Type 0) → ℕ → ℕ → Type 0
VisitsAt m count terminal n k = (k < count) × Visits m (terminal k) n

-- a free port of a node
abbrev pub IsFreePort : Shape → Defects → ℕ → ℕ → Type 0
IsFreePort m d n w = IsPort m n w × IsFreeWire d w

-- the j-th net that crosses a node has the j-th free port of it
pub record HasPort (m : Shape) (d : Defects) (count : ℕ) (terminal : ℕ → ℕ → Type 0) (n k w : ℕ) : Type 0 where
  pub crossing : List ℕ
  pub ports : List ℕ
  pub are_crossing : AreThose (CrossesAt m count terminal n) crossing
  pub are_ports : AreThose (IsFreePort m d n) ports
  pub place : ℕ
  pub net_is : IsNth crossing place k
  pub port_is : IsNth ports place w

-- The taps of a net at a node that it visits: its terminals among the node's own taps, its ports of the node's children,
-- and its own port of the node. A port that it hasn't is left out.
pub data IsTapOf (m : Shape) (d : Defects) (count : ℕ) (terminal : ℕ → ℕ → Type 0) (n k w : ℕ) : Type 0 where
  by_terminal : terminal k w → node_of m w ≡ n → IsTapOf m d count terminal n k w
  by_child : (c : ℕ) → parent_of m c ≡ Some n → HasPort m d count terminal c k w → IsTapOf m d count terminal n k w
  by_port : HasPort m d count terminal n k w → IsTapOf m d count terminal n k w

-- the line and its crosspoints to the net's taps are free
pub record Serves (m : Shape) (d : Defects) (count : ℕ) (terminal : ℕ → ℕ → Type 0) (n k w : ℕ) : Type 0 where
  pub line : IsLine m n w
  pub free : IsFreeWire d w
  pub crosses : (t x : ℕ) → IsTapOf m d count terminal n k t → x < crosses_of m → ends_of m x ≡ (t, w) → IsFreeCross m d x

-- how many nets cross the node, and how many free ports it has
pub record ArePorts (m : Shape) (d : Defects) (count : ℕ) (terminal : ℕ → ℕ → Type 0) (n need have : ℕ) : Type 0 where
  pub crossing : List ℕ
  pub ports : List ℕ
  pub are_crossing : AreThose (CrossesAt m count terminal n) crossing
  pub are_ports : AreThose (IsFreePort m d n) ports
  pub need_is : need ≡ length crossing
  pub have_is : have ≡ length ports

pub record PortsSuffice (m : Shape) (d : Defects) (count : ℕ) (terminal : ℕ → ℕ → Type 0) (n : ℕ) : Type 0 where
  pub need : ℕ
  pub have : ℕ
  pub are : ArePorts m d count terminal n need have
  pub met : need ≤ have

-- each visiting net has a line that serves it, and no line is of two nets
pub record IsChoiceAt (m : Shape) (d : Defects) (count : ℕ) (terminal : ℕ → ℕ → Type 0) (n : ℕ) (picks : List Pick) : Type 0 where
  pub given : (k : ℕ) → VisitsAt m count terminal n k → (w : ℕ) × Contains picks (record { net = k; line = w })
  pub each : All (λ p. VisitsAt m count terminal n p.net × Serves m d count terminal n p.net p.line) picks
  pub nets_apart : AllPairs (λ p q. p.net ≢ q.net) picks
  pub lines_apart : AllPairs (λ p q. p.line ≢ q.line) picks

-- some choice gives each visiting net a serving line of its own
abbrev pub LinesSuffice : Shape → Defects → ℕ → (ℕ → ℕ → Type 0) → ℕ → Type 0
LinesSuffice m d count terminal n = (picks : List Pick) × IsChoiceAt m d count terminal n picks

-- a set of visiting nets that fewer lines serve than it has nets
pub record AreShort (m : Shape) (d : Defects) (count : ℕ) (terminal : ℕ → ℕ → Type 0) (n : ℕ) (set : List ℕ) (need have : ℕ) : Type 0 where
  pub within : All (VisitsAt m count terminal n) set
  pub ascending : AllPairs (λ a b. a < b) set
  pub lines : List ℕ
  pub lines_are : AreThose (λ w. (k : ℕ) × Contains set k × Serves m d count terminal n k w) lines
  pub need_is : need ≡ length set
  pub have_is : have ≡ length lines
  pub fewer : have < need

pub record NodeSuffices (m : Shape) (d : Defects) (count : ℕ) (terminal : ℕ → ℕ → Type 0) (n : ℕ) : Type 0 where
  pub ports : PortsSuffice m d count terminal n
  pub lines : LinesSuffice m d count terminal n

abbrev pub IsMet : Need → Type 0
IsMet q = q.need ≤ q.have

-- tables, pins, and at each node ports and lines suffice
pub record Suffices (m : Shape) (d : Defects) (count : ℕ) (terminal : ℕ → ℕ → Type 0) (tables pins : Need) : Type 0 where
  pub tables_met : IsMet tables
  pub pins_met : IsMet pins
  pub nodes_met : (n : ℕ) → n < nodes_of m → NodeSuffices m d count terminal n

-- the numbers are those of a need that isn't met
abbrev pub IsUnmet : Need → Short → Type 0
IsUnmet q s = (s.need ≡ q.need) × (s.have ≡ q.have) × (q.have < q.need) × (s.nets ≡ [])

-- ports are short at the node
abbrev pub PortsAreShort : Shape → Defects → ℕ → (ℕ → ℕ → Type 0) → Short → Type 0
PortsAreShort m d count terminal s = ArePorts m d count terminal s.node.0 s.need s.have × (s.have < s.need) × (s.nets ≡ [])

-- the node is the first that doesn't suffice
abbrev pub IsFirstNode : Shape → Defects → ℕ → (ℕ → ℕ → Type 0) → Need → Need → ℕ → Type 0
IsFirstNode m d count terminal tables pins n = IsMet tables × IsMet pins × (n < nodes_of m)
    × ((i : ℕ) → i < n → NodeSuffices m d count terminal i)

-- by the resource
abbrev pub IsShortOf : Resource → Shape → Defects → ℕ → (ℕ → ℕ → Type 0) → Need → Need → Short → Type 0
IsShortOf Tables m d count terminal tables pins s = (s.node.0 ≡ 0) × IsUnmet tables s
IsShortOf Pins m d count terminal tables pins s = IsMet tables × (s.node.0 ≡ 0) × IsUnmet pins s
IsShortOf Ports m d count terminal tables pins s = IsFirstNode m d count terminal tables pins s.node.0 × PortsAreShort m d count terminal s
IsShortOf Lines m d count terminal tables pins s =
    IsFirstNode m d count terminal tables pins s.node.0 × PortsSuffice m d count terminal s.node.0
    × AreShort m d count terminal s.node.0 s.nets s.need s.have

-- The first short resource, its node, need and have, and for lines a set that shows it.
abbrev pub IsFirstShort : Shape → Defects → ℕ → (ℕ → ℕ → Type 0) → Need → Need → Short → Type 0
IsFirstShort m d count terminal tables pins s = IsShortOf s.resource m d count terminal tables pins s
