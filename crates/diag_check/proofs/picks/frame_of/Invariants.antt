use Rattle.diag_check.specs.Picked.{ArePickedUpTo}
use Rattle.diag_check.proofs.picks.frame_of.Given as goal

abbrev pub invariant-nodes : goal.invariant-nodes
invariant-nodes l = ArePickedUpTo l.shape l.parts.nodes l.most l.n l.picks.items
