-- When an image is routed: it closes and switches on what its network needs on a plan, and nothing else.
use Rattle.std.specs.Prelude.{◌≡◌, ℕ, ◌<◌, true, List, Some, IsSome, length}
use Rattle.machine_shape.specs.{declared.Shape.Shape, Shape.nodes_of, Shape.ends_of}
use Rattle.machine_meaning.specs.Defects.{Defects}
use Rattle.machine_config.specs.Configuration.{is_closed, setting_of}
use Rattle.machine_image.specs.Images.{ImageValue}
use Rattle.map_network.specs.{declared.network.Network.Network, Networks.table_at}
use Rattle.place_plan.specs.declared.{plan.Plan.Plan, short.Visit.Visit}
use Rattle.place_plan.specs.Vocabulary.{HasLine, AreVisits, Fits, FitsInOrder, IsPlan, IsTerminal, nets_in, place_of, IsTapOf}
use Rattle.place_route.specs.{Layouts.setting_in, Ticks.AreTicks}

-- The image is routed for the network on the plan and the list. So each closed crosspoint lies on the way between two terminals of
-- one net
pub record IsRoutedFor (m : Shape) (d : Defects) (n : Network) (p : Plan) (i : ImageValue) : Type 0 where
  -- the plan is for the network, and fits the list
  pub plan : IsPlan m d n p
  pub fits : Fits m d n p
  pub shape : i.config.shape ≡ m
  -- the pins are the plan's, in order
  pub inputs : i.inputs ≡ p.inputs
  pub outputs : i.outputs ≡ p.outputs
  -- the plan's tables are on, each with the cells, the flag and the initial bit of its table of the network, and no others are
  pub on : (j : ℕ) → j < length n.tables → setting_of i.config (place_of p j) ≡ Some (setting_in (table_at n j))
  pub no_others : (t : ℕ) → IsSome (setting_of i.config t) → (j : ℕ) × (j < length n.tables) × (place_of p j ≡ t)
  -- each net that visits a node has a line there that serves it, and no two nets have one line
  pub lines : List Visit
  pub served : AreVisits m d (nets_in n) (IsTerminal m n p) (nodes_of m) lines
  -- the crosspoints of a net's line at a node and its taps there are closed, among which are the ports that room gives it
  pub closed : (a k w t : ℕ) → HasLine lines a k w → IsTapOf m d (nets_in n) (IsTerminal m n p) a k t →
      (x : ℕ) × (is_closed i.config x ≡ true) × (ends_of m x ≡ (t, w))
  -- and no others are
  pub only : (x : ℕ) → is_closed i.config x ≡ true → (a : ℕ) × (k : ℕ) × (w : ℕ) × (t : ℕ) × HasLine lines a k w
      × IsTapOf m d (nets_in n) (IsTerminal m n p) a k t × (ends_of m x ≡ (t, w))
  -- a cycle has as many ticks as the network is deep, and at least one
  pub ticks : AreTicks n i.config.ticks

-- it is routed on the in-order plan, which fits
pub record IsRoutedInOrder (m : Shape) (d : Defects) (n : Network) (i : ImageValue) : Type 0 where
  pub plan : Plan
  pub fits : FitsInOrder m d n plan
  pub routed : IsRoutedFor m d n plan i
