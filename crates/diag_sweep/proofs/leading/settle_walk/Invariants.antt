use Rattle.diag_sweep.proofs.Budgets.{HasSettled}
use Rattle.diag_sweep.proofs.leading.settle_walk.Given as goal

abbrev pub invariant-crosses : goal.invariant-crosses
invariant-crosses l = HasSettled l.facts l.bad l.fn.budget l.budget
