-- Plans that a search finds, laid out.
use Rattle.std.specs.Prelude.{ℕ, ◌<◌}
use Rattle.machine_shape.specs.declared.Shape.{Shape}
use Rattle.machine_meaning.specs.Defects.{Defects}
use Rattle.map_network.specs.declared.network.Network.{Network}
use Rattle.place_plan.specs.{declared.layout.Placed.Placed, declared.plan.Plan.Plan, Laying.IsLayout}
use Rattle.place_anneal.specs.{declared.better.Better.Better, Crossings.IsBetter}

-- the plan is better than the first one, and this is a layout of it
pub record IsBetterLaid (m : Shape) (d : Defects) (n : Network) (old : Plan) (new : Placed) : Type 0 where
  pub better : IsBetter m d n old new.plan
  pub layout : IsLayout m d n new.plan new.layout

-- and has fewer crossings than so many
pub record IsBetterBy (m : Shape) (d : Defects) (n : Network) (old : Plan) (most : ℕ) (b : Better) : Type 0 where
  pub laid : IsBetterLaid m d n old b.placed
  pub fewer : b.crossings < most
