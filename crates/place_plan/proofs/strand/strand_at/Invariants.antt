use Rattle.place_plan.proofs.Vocabulary.{node_of, IsClimb}
use Rattle.place_plan.proofs.strand.strand_at.Given as goal

abbrev pub invariant-loop-at : goal.invariant-loop-at
invariant-loop-at l = IsClimb l.tree.shape l.node (node_of l.tree.shape l.wire) l.at

abbrev pub decreases-loop-at : goal.decreases-loop-at
decreases-loop-at l = l.at
