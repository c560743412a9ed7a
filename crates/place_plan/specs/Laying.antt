-- A plan laid out: which net has which terminals, ports and lines.
use Rattle.std.specs.Prelude.{◌≤◌, length}
use Rattle.machine_shape.specs.{declared.Shape.Shape, Bounds.most_ticks, Shape.nodes_of}
use Rattle.machine_meaning.specs.Defects.{Defects}
use Rattle.map_network.specs.declared.network.Network.{Network}
use Rattle.place_plan.specs.{declared.layout.Laid.Laid, declared.plan.Plan.Plan, declared.short.Need.Need, Room.IsFirstShort, Room.Suffices}
use Rattle.place_plan.specs.declared.layout.Laid.TheVariants as laid
use Rattle.place_plan.specs.{declared.layout.Layout.Layout, Layouts.AreHeld, Layouts.AreVisits, Plans.Fits, Plans.IsTerminal, Plans.nets_in}
use Rattle.place_plan.specs.{Choosing.IsChoice, Terminals.ArePlanNets}

-- The layout has the terminals of the plan's nets, the port of each net that crosses a node, and the line of each that visits
-- one; so laid, the nets are a choice on the tree of crossbars. There are no more tables than may be on.
pub record IsLayout (m : Shape) (d : Defects) (n : Network) (p : Plan) (l : Layout) : Type 0 where
  pub few : length n.tables ≤ most_ticks m
  pub nets : ArePlanNets m n p l.nets.items
  pub held : AreHeld m d (nets_in n) (IsTerminal m n p) (nodes_of m) l.ports.items
  pub visited : AreVisits m d (nets_in n) (IsTerminal m n p) (nodes_of m) l.visits.items
  pub choice : IsChoice m d (nets_in n) (IsTerminal m n p) l.ports.items l.visits.items

-- the plan fits, with this layout
abbrev pub FitsWith : Shape → Defects → Network → Plan → Layout → Type 0
FitsWith m d n p l = Fits m d n p × IsLayout m d n p l

-- there is room, and this is a layout; or this is the first short resource
abbrev pub IsLaid : Shape → Defects → Network → Plan → Need → Need → Laid → Type 0
IsLaid m d n p tables pins (laid.Out l) = Suffices m d (nets_in n) (IsTerminal m n p) tables pins × IsLayout m d n p l
IsLaid m d n p tables pins (laid.Lacks s) = IsFirstShort m d (nets_in n) (IsTerminal m n p) tables pins s
