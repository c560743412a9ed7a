use Rattle.diag_check.specs.Marks.{Adds, IsEndAmong}
use Rattle.diag_check.proofs.used.mark_ends.Given as goal

abbrev pub invariant-crosses : goal.invariant-crosses
invariant-crosses l = Adds (IsEndAmong l.shape l.crosses l.i) l.initial.used l.used
