use Rattle.diag_sweep.proofs.Going.{goes_on}
use Rattle.diag_sweep.proofs.turns.sweep_height.Goals as goal

pub returns-clause-goes : goal.returns-clause-goes
returns-clause-goes g c = goes_on c.hang_wanted.ensures.goes c.refill.ensures.advances c.refill.ensures.goes
