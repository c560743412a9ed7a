use Rattle.diag_sweep.proofs.Going.{goes_on}
use Rattle.diag_sweep.proofs.turns.sweep_pass.Goals as goal

pub returns-clause-goes : goal.returns-clause-goes
returns-clause-goes g c = goes_on c.tell_all.ensures.goes c.sweep_heights.ensures.advances c.sweep_heights.ensures.goes
