use Rattle.diag_sweep.proofs.Going.{goes_on}
use Rattle.diag_sweep.proofs.turns.first_turns.Goals as goal

pub returns-in_err-hang_first-clause-goes : goal.returns-in_err-hang_first-clause-goes
returns-in_err-hang_first-clause-goes g c = goes_on c.pins_left.ensures.goes c.hang_first.ensures.advances c.hang_first.ensures.goes

pub returns-clause-goes : goal.returns-clause-goes
returns-clause-goes g c = goes_on (goes_on c.pins_left.ensures.goes c.hang_first.ensures.advances c.hang_first.ensures.goes) c.hang_first-2.ensures.advances c.hang_first-2.ensures.goes
