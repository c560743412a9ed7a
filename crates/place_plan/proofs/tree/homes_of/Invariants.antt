use Rattle.place_plan.specs.Trees.{AreHomes}
use Rattle.place_plan.proofs.tree.homes_of.Given as goal

abbrev pub invariant-loop-w : goal.invariant-loop-w
invariant-loop-w l = AreHomes l.shape l.w l.homes.items
