use Rattle.diag_check.proofs.Vocabulary.{Gets, IsCrossBefore}
use Rattle.diag_check.proofs.fields.add_crosses.Given as goal

abbrev pub invariant-crosses : goal.invariant-crosses
invariant-crosses l = Gets (IsCrossBefore l.crosses l.j) l.j l.initial.marks l.marks
