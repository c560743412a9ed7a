use Rattle.place_plan.proofs.Vocabulary.{node_of, IsSpreadUp}
use Rattle.place_plan.proofs.touch.touch_up.Given as goal

abbrev pub invariant-loop-at : goal.invariant-loop-at
invariant-loop-at l = IsSpreadUp l.tree.shape (node_of l.tree.shape l.fn.wire.0) l.at l.fn.net.0 l.fn.touched l.touched

abbrev pub decreases-loop-at : goal.decreases-loop-at
decreases-loop-at l = l.at
