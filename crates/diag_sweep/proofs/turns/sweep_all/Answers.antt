use Rattle.diag_sweep.proofs.Going.{goes_on}
use Rattle.diag_sweep.proofs.turns.sweep_all.Goals as goal

pub returns-clause-goes : goal.returns-clause-goes
returns-clause-goes g c = goes_on c.pin_turn.ensures.goes c.sweep_rest.ensures.advances c.sweep_rest.ensures.goes
