use Rattle.diag_check.specs.Marks.{Adds, IsNodeAmong}
use Rattle.diag_check.proofs.marks.mark_nodes.Given as goal

abbrev pub invariant-wires : goal.invariant-wires
invariant-wires l = Adds (IsNodeAmong l.shape l.used l.w) l.initial.nodes l.nodes
