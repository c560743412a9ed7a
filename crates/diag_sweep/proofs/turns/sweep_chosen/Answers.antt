use Rattle.diag_sweep.proofs.Going.{goes_on}
use Rattle.diag_sweep.proofs.turns.sweep_chosen.Goals as goal

pub returns-clause-goes : goal.returns-clause-goes
returns-clause-goes g c = goes_on c.first_turns.ensures.goes c.sweep_rest.ensures.advances c.sweep_rest.ensures.goes
