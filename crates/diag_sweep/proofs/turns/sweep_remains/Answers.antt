use Rattle.diag_sweep.proofs.Going.{goes_on}
use Rattle.diag_sweep.proofs.turns.sweep_remains.Goals as goal

pub returns-clause-goes : goal.returns-clause-goes
returns-clause-goes g c = goes_on c.sweep_left.ensures.goes c.lead_all.ensures.advances c.lead_all.ensures.goes
