use Rattle.place_plan.specs.Trees.{AreParents}
use Rattle.place_plan.proofs.tree.parents_of.Given as goal

abbrev pub invariant-loop-n : goal.invariant-loop-n
invariant-loop-n l = AreParents l.shape l.n l.parents.items
