use Rattle.diag_check.proofs.Vocabulary.{◌*◌, IsJointOf, IsPickOf}
use Rattle.diag_check.proofs.Fielding.{HasMarked}
use Rattle.diag_check.proofs.fields.join_nodes.Given as goal

abbrev pub invariant-nodes : goal.invariant-nodes
invariant-nodes l = HasMarked l.shape l.nodes l.n (IsPickOf l.frame.picks.items) (IsJointOf l.shape l.frame.picks.items) (2 * l.frame.most) (2 * l.frame.most * l.frame.most) l.initial.field l.field
