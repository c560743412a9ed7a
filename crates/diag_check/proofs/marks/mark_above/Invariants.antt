use Rattle.diag_check.proofs.Vocabulary.{◌-◌, Rises}
use Rattle.diag_check.proofs.marks.mark_above.Given as goal

abbrev pub invariant-nodes : goal.invariant-nodes
invariant-nodes l = Rises l.shape l.initial.nodes l.nodes (l.count - l.k)
