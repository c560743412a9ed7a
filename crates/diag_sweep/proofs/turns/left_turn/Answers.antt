use Rattle.diag_sweep.proofs.Going.{goes_on}
use Rattle.diag_sweep.proofs.turns.left_turn.Goals as goal

pub returns-in_err-hang_wanted-clause-goes : goal.returns-in_err-hang_wanted-clause-goes
returns-in_err-hang_wanted-clause-goes g c = goes_on c.tell_all.ensures.goes c.hang_wanted.ensures.advances c.hang_wanted.ensures.goes

pub returns-clause-goes : goal.returns-clause-goes
returns-clause-goes g c = goes_on c.tell_all.ensures.goes c.hang_wanted.ensures.advances c.hang_wanted.ensures.goes
