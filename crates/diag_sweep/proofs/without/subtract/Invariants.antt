use Rattle.diag_sweep.proofs.Leaving.{AreWithoutBelow}
use Rattle.diag_sweep.proofs.without.subtract.Given as goal

abbrev pub invariant-numbers : goal.invariant-numbers
invariant-numbers l = AreWithoutBelow l.out l.these l.rest l.i
