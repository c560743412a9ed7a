use Rattle.diag_sweep.proofs.Budgets.{HasSettled}
use Rattle.diag_sweep.proofs.turns.settle_hangs.Given as goal

abbrev pub invariant-hangs : goal.invariant-hangs
invariant-hangs l = HasSettled l.knowledge.facts l.knowledge.marks l.fn.budget l.budget
