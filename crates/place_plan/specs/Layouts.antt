-- Which net has which port and which line at each node.
use Rattle.std.specs.Prelude.{◌≡◌, ◌≢◌, ℕ, ◌<◌, ◌≤◌, ◌++◌, List, [], map, length}
use Rattle.std.specs.List.{All, AllPairs, Contains, range_with_len}
use Rattle.machine_shape.specs.{declared.Shape.Shape, Shape.nodes_of}
use Rattle.machine_meaning.specs.Defects.{Defects}
use Rattle.machine_defects.specs.Lists.{DefectList}
use Rattle.place_plan.specs.declared.{board.Board.Board, short.Room.TheVariants.Enough, short.Room.TheVariants.Lacks, short.Short.Short}
use Rattle.place_plan.specs.declared.{search.Ask.Ask, short.Need.Need, short.Port.Port, short.Room.Room}
use Rattle.place_plan.specs.{declared.search.Hold.Hold, declared.short.Visit.Visit, Lists.AreThose, Lists.AreLists, Lists.nth_of}
use Rattle.place_plan.specs.Room.{Pick, HasTerminal, CrossesAt, VisitsAt, HasPort, Serves, IsChoiceAt, PortsSuffice, PortsAreShort}
use Rattle.place_plan.specs.Room.{AreShort, NodeSuffices, Suffices, IsFirstShort, IsFreePort, port_for, visit_for}
use Rattle.place_plan.specs.declared.short.Resource.{Resource, TheVariants.Tables, TheVariants.Pins, TheVariants.Ports, TheVariants.Lines}
use Rattle.place_plan.specs.{Choices.ask_at, Touches.AreTouched}

-- the net that gets a line, by the place of its ask
abbrev pub pick_of : List Ask → Hold → Pick
pick_of asks h = record { net = (ask_at asks h.ask).net.0; line = h.line }

abbrev pub net_in : List Ask → ℕ → ℕ
net_in asks i = (ask_at asks i).net.0

abbrev pub visit_of : ℕ → Pick → Visit
visit_of n p = visit_for n p.net p.line

abbrev pub visit_by : ℕ → List Ask → Hold → Visit
visit_by n asks h = visit_for n (ask_at asks h.ask).net.0 h.line

-- the visits go on by those of a choice of lines at the node
abbrev pub GoOn : Shape → Defects → ℕ → (ℕ → ℕ → Type 0) → ℕ → List Visit → List Visit → Type 0
GoOn m d count terminal n old new = (picks : List Pick) × IsChoiceAt m d count terminal n picks × (new ≡ old ++ map (visit_of n) picks)

-- lines are short at the node, and the record says so
abbrev pub LinesAreShort : Shape → Defects → ℕ → (ℕ → ℕ → Type 0) → ℕ → Short → Type 0
LinesAreShort m d count terminal n s = (s.resource ≡ Lines) × (s.node.0 ≡ n) × AreShort m d count terminal n s.nets s.need s.have

-- so are ports
abbrev pub IsLackOf : ℕ → ℕ → ℕ → Short → Type 0
IsLackOf n need have s = (s.resource ≡ Ports) × (s.node.0 ≡ n) × (s.need ≡ need) × (s.have ≡ have) × (s.nets ≡ []) × (have < need)

-- the lines of the nets at the first nodes
pub record AreVisits (m : Shape) (d : Defects) (count : ℕ) (terminal : ℕ → ℕ → Type 0) (nodes : ℕ) (visits : List Visit) : Type 0 where
  pub given : (n k : ℕ) → n < nodes → VisitsAt m count terminal n k → (w : ℕ) × Contains visits (visit_for n k w)
  pub each : All (λ v. (v.node.0 < nodes) × VisitsAt m count terminal v.node.0 v.net.0 × Serves m d count terminal v.node.0 v.net.0 v.line.0) visits
  pub apart : AllPairs (λ v u. v.node.0 ≡ u.node.0 → (v.net.0 ≢ u.net.0) × (v.line.0 ≢ u.line.0)) visits

-- the ports of the nets at the first nodes
pub record AreHeld (m : Shape) (d : Defects) (count : ℕ) (terminal : ℕ → ℕ → Type 0) (nodes : ℕ) (ports : List Port) : Type 0 where
  pub given : (n k : ℕ) → n < nodes → CrossesAt m count terminal n k → (w : ℕ) × Contains ports (port_for n k w)
  pub each : All (λ p. (p.node.0 < nodes) × CrossesAt m count terminal p.node.0 p.net.0 × HasPort m d count terminal p.node.0 p.net.0 p.wire.0) ports

-- by its resource, ports or lines are short at its node
abbrev pub NodeIsShortOf : Resource → Shape → Defects → ℕ → (ℕ → ℕ → Type 0) → Short → Type 0
NodeIsShortOf Tables m d count terminal s = ⊥
NodeIsShortOf Pins m d count terminal s = ⊥
NodeIsShortOf Ports m d count terminal s = PortsAreShort m d count terminal s
NodeIsShortOf Lines m d count terminal s = PortsSuffice m d count terminal s.node.0
    × AreShort m d count terminal s.node.0 s.nets s.need s.have

pub record NodeIsShort (m : Shape) (d : Defects) (count : ℕ) (terminal : ℕ → ℕ → Type 0) (n : ℕ) (s : Short) : Type 0 where
  pub node : s.node.0 ≡ n
  pub short : NodeIsShortOf s.resource m d count terminal s

-- the lists of the board are those of these nets
pub record IsBoardOf (d : DefectList) (nets : List (List ℕ)) (b : Board) : Type 0 where
  pub shape : b.tree.shape ≡ d.shape
  pub touched : AreTouched d.shape nets (length nets) b.touched.items
  pub crossing : AreLists (nodes_of d.shape) (CrossesAt d.shape (length nets) (HasTerminal nets)) b.crossing.items
  pub ports : AreLists (nodes_of d.shape) (IsFreePort d.shape d.list) b.ports.items

-- there is room, and these are the lines and ports; or this is the first short resource
abbrev pub IsRoom : Shape → Defects → ℕ → (ℕ → ℕ → Type 0) → Need → Need → Room → Type 0
IsRoom m d count terminal tables pins (Enough ports visits) =
    Suffices m d count terminal tables pins × AreHeld m d count terminal (nodes_of m) ports.items
    × AreVisits m d count terminal (nodes_of m) visits.items
IsRoom m d count terminal tables pins (Lacks s) = IsFirstShort m d count terminal tables pins s

-- the ports of the nets that cross a node
abbrev pub port_by : ℕ → List ℕ → List ℕ → ℕ → Port
port_by n crossing ports j = port_for n (nth_of crossing j) (nth_of ports j)

-- the ports go on by those of the nets that cross the node
abbrev pub HoldOn : ℕ → List ℕ → List ℕ → List Port → List Port → Type 0
HoldOn n crossing ports old new = (length crossing ≤ length ports)
    × (new ≡ old ++ map (port_by n crossing ports) (range_with_len 0 (length crossing)))

-- the nodes before this one suffice
abbrev pub SufficeBefore : Shape → Defects → ℕ → (ℕ → ℕ → Type 0) → ℕ → Type 0
SufficeBefore m d count terminal n = (i : ℕ) → i < n → NodeSuffices m d count terminal i

-- the first nodes suffice, with these ports and lines
pub record IsEnough (m : Shape) (d : Defects) (count : ℕ) (terminal : ℕ → ℕ → Type 0) (nodes : ℕ) (ports : List Port)
    (visits : List Visit) : Type 0 where
  pub suffice : SufficeBefore m d count terminal nodes
  pub ports_are : AreHeld m d count terminal nodes ports
  pub visits_are : AreVisits m d count terminal nodes visits

-- the node suffices, with these further ports and lines
pub record IsRoomAt (m : Shape) (d : Defects) (count : ℕ) (terminal : ℕ → ℕ → Type 0) (n : ℕ) (old_ports : List Port)
    (old_visits : List Visit) (ports : List Port) (visits : List Visit) : Type 0 where
  pub crossing : List ℕ
  pub free : List ℕ
  pub are_crossing : AreThose (CrossesAt m count terminal n) crossing
  pub are_free : AreThose (IsFreePort m d n) free
  pub hold : HoldOn n crossing free old_ports ports
  pub go : GoOn m d count terminal n old_visits visits

-- the node is the first that lacks something
pub record IsFirstLack (m : Shape) (d : Defects) (count : ℕ) (terminal : ℕ → ℕ → Type 0) (s : Short) : Type 0 where
  pub within : s.node.0 < nodes_of m
  pub before : SufficeBefore m d count terminal s.node.0
  pub short : NodeIsShortOf s.resource m d count terminal s

-- by nodes alone: there is room, or this is what lacks first
abbrev pub IsNodesRoom : Shape → Defects → ℕ → (ℕ → ℕ → Type 0) → Room → Type 0
IsNodesRoom m d count terminal (Enough ports visits) = IsEnough m d count terminal (nodes_of m) ports.items visits.items
IsNodesRoom m d count terminal (Lacks s) = IsFirstLack m d count terminal s
