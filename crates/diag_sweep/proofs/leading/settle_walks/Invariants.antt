use Rattle.diag_sweep.proofs.Budgets.{HasSettled}
use Rattle.diag_sweep.proofs.leading.settle_walks.Given as goal

abbrev pub invariant-trials : goal.invariant-trials
invariant-trials l = HasSettled l.facts l.bad l.fn.budget l.budget
