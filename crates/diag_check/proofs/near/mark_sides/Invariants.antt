use Rattle.diag_check.proofs.Vocabulary.{OfMarked, Adds, IsOfNode}
use Rattle.diag_check.proofs.near.mark_sides.Given as goal

abbrev pub invariant-nodes : goal.invariant-nodes
invariant-nodes l = Adds (OfMarked l.nodes (IsOfNode l.shape) l.n) l.initial.wires l.wires
