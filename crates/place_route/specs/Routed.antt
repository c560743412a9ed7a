-- A network that sits on a machine, with a layout of its nets, and the configuration that is made of it.
use Rattle.std.specs.Prelude.{◌≡◌, ℕ, ◌*◌, ◌<◌, ◌≤◌, List, Option, length}
use Rattle.std.specs.{BTreeMap.BTreeMap, List.All, List.Contains}
use Rattle.std.specs.FinSet as set
use Rattle.machine_shape.specs.{declared.Shape.Shape, Bounds.most_ticks, Shape.nodes_of, Shape.wires_of}
use Rattle.machine_meaning.specs.Defects.{Defects}
use Rattle.machine_config.specs.Configuration.{Configuration, is_closed, cleared}
use Rattle.machine_image.specs.Images.{ImageValue}
use Rattle.map_network.specs.declared.network.Network.{Network}
use Rattle.place_plan.specs.declared.{plan.Plan.Plan, short.Port.Port, short.Visit.Visit}
use Rattle.place_plan.specs.Vocabulary.{AreWires, AreHeld, AreVisits, IsTerminal, nets_in, ArePlanNets, port_for}
use Rattle.place_route.specs.{Layouts.IsSet, Ticks.AreTicks}
use Rattle.place_route.specs.{Closing.Closes, Closing.IsOwnedJoint, Owners.HasLine, Owners.AreLines, Owners.AreOwners, Trees.IsLaidOnTree}

-- the terminals of the plan's nets, and the ports and the lines of the nets; no more tables than may be on
pub record IsLaidBy (m : Shape) (d : Defects) (n : Network) (p : Plan) (nets : List (List ℕ)) (ports : List Port)
    (visits : List Visit) : Type 0 where
  pub few : length n.tables ≤ most_ticks m
  pub nets_are : ArePlanNets m n p nets
  pub held : AreHeld m d (nets_in n) (IsTerminal m n p) (nodes_of m) ports
  pub visited : AreVisits m d (nets_in n) (IsTerminal m n p) (nodes_of m) visits

-- the net has the port of the node
abbrev pub HasPortIn : List Port → ℕ → ℕ → ℕ → Type 0
HasPortIn ports n k w = Contains ports (port_for n k w)

-- the wires of nets, and of their ports and lines, are the machine's
pub record AreWiresOf (m : Shape) (nets : List (List ℕ)) (ports : List Port) (visits : List Visit) : Type 0 where
  pub terminals : All (AreWires m) nets
  pub ports_are : All (λ p. p.wire.0 < wires_of m) ports
  pub lines_are : (n k w : ℕ) → HasLine visits n k w → w < wires_of m

-- The crosspoints are closed of the nets' lines and the wires that nets have as terminals or ports, by maps of them.
pub record IsJoined (m : Shape) (nets : List (List ℕ)) (ports : List Port) (visits : List Visit) (g : Configuration) : Type 0 where
  pub lines : BTreeMap (ℕ × ℕ) ℕ
  pub owners : List (Option ℕ)
  pub are_lines : AreLines visits lines
  pub are_owners : AreOwners m nets ports owners
  pub closed : Closes (IsOwnedJoint m lines owners (wires_of m)) (2 * wires_of m) (cleared m) g

-- the network's tables are on, its nets are laid on these ports and lines, and not many crosspoints are closed
pub record IsRouted (m : Shape) (d : Defects) (n : Network) (p : Plan) (ports : List Port) (visits : List Visit)
    (g : Configuration) : Type 0 where
  pub shape : g.shape ≡ m
  pub sets : IsSet d n p g
  pub laid : IsLaidOnTree m (IsTerminal m n p) (is_closed g) (HasLine visits) (HasPortIn ports)
  pub few : set.len g.closed ≤ 2 * wires_of m

-- The image has the plan's pins, as many ticks as the network is deep, and some choice of lines for the nets.
pub record IsRouteOf (m : Shape) (d : Defects) (n : Network) (p : Plan) (i : ImageValue) : Type 0 where
  pub ports : List Port
  pub visits : List Visit
  pub held : AreHeld m d (nets_in n) (IsTerminal m n p) (nodes_of m) ports
  pub visited : AreVisits m d (nets_in n) (IsTerminal m n p) (nodes_of m) visits
  pub routed : IsRouted m d n p ports visits i.config
  pub ticks : AreTicks n i.config.ticks
  pub inputs : i.inputs ≡ p.inputs
  pub outputs : i.outputs ≡ p.outputs
