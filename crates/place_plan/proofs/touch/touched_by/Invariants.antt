use Rattle.place_plan.specs.Touches.{AreTouched}
use Rattle.place_plan.proofs.touch.touched_by.Given as goal

abbrev pub invariant-loop-k : goal.invariant-loop-k
invariant-loop-k l = AreTouched l.tree.shape l.nets l.k l.touched.items
