use Rattle.diag_sweep.proofs.Going.{goes_on}
use Rattle.diag_sweep.proofs.turns.sweep_rest.Goals as goal

pub returns-clause-goes : goal.returns-clause-goes
returns-clause-goes g c = goes_on c.sweep_passes.ensures.goes c.sweep_remains.ensures.advances c.sweep_remains.ensures.goes
