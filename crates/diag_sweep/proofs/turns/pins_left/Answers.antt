use Rattle.diag_sweep.proofs.Going.{goes_itself}
use Rattle.diag_sweep.proofs.turns.pins_left.Goals as goal

pub returns-then-knows_pins-clause-goes : goal.returns-then-knows_pins-clause-goes
returns-then-knows_pins-clause-goes g c = goes_itself c.requires.hand
