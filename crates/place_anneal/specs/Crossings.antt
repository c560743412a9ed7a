-- How often nets cross nodes.
use Rattle.std.specs.Prelude.{◌≡◌, ℕ, ◌<◌, ◌≤◌, List, length}
use Rattle.std.specs.List.{sum_by}
use Rattle.machine_shape.specs.{declared.Shape.Shape, Shape.nodes_of}
use Rattle.machine_meaning.specs.Defects.{Defects}
use Rattle.map_network.specs.declared.network.Network.{Network}
use Rattle.place_plan.specs.declared.plan.Plan.{Plan}
use Rattle.place_plan.specs.Vocabulary.{AreLists, Fits, IsPlan, IsTerminal, nets_in, CrossesAt}

-- The nets of a plan that cross each node, ascending. By the definition of such lists there is one for each node, with just
-- those nets.
abbrev pub AreCrossings : Shape → Network → Plan → List (List ℕ) → Type 0
AreCrossings m n p lists = AreLists (nodes_of m) (CrossesAt m (nets_in n) (IsTerminal m n p)) lists

-- the number of nets that cross a node, summed over all nodes
pub record HasCrossings (m : Shape) (n : Network) (p : Plan) (sum : ℕ) : Type 0 where
  pub crossing : List (List ℕ)
  pub are : AreCrossings m n p crossing
  pub sum_is : sum ≡ sum_by length crossing

-- the second plan has at most as many crossings in sum as the first
pub record HasNoMore (m : Shape) (n : Network) (old new : Plan) : Type 0 where
  pub before : ℕ
  pub after : ℕ
  pub are_before : HasCrossings m n old before
  pub are_after : HasCrossings m n new after
  pub fewer : after ≤ before

-- the second plan has fewer crossings in sum than the first
pub record HasFewer (m : Shape) (n : Network) (old new : Plan) : Type 0 where
  pub before : ℕ
  pub after : ℕ
  pub are_before : HasCrossings m n old before
  pub are_after : HasCrossings m n new after
  pub fewer : after < before

-- the pins stay
pub record KeepsPins (old new : Plan) : Type 0 where
  pub inputs : new.inputs ≡ old.inputs
  pub outputs : new.outputs ≡ old.outputs

-- the second plan fits, has the pins of the first, and has fewer crossings in sum
pub record IsBetter (m : Shape) (d : Defects) (n : Network) (old new : Plan) : Type 0 where
  pub plan : IsPlan m d n new
  pub fits : Fits m d n new
  pub pins : KeepsPins old new
  pub crossings : HasFewer m n old new
