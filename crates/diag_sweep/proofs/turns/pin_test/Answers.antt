use Rattle.diag_sweep.proofs.Going.{yet_learnt, yet_then}
use Rattle.diag_sweep.proofs.turns.pin_test.Goals as goal

pub returns-in_default-clause-goes : goal.returns-in_default-clause-goes
returns-in_default-clause-goes g c = yet_then c.pin_load.ensures.goes (yet_learnt c.pin_load.ensures.goes.hand c.learn_pins.ensures.known c.learn_pins.ensures.grows)

pub returns-clause-goes : goal.returns-clause-goes
returns-clause-goes g c = yet_then c.pin_load.ensures.goes (yet_learnt c.pin_load.ensures.goes.hand c.learn_pins.ensures.known c.learn_pins.ensures.grows)

pub returns-in_default-note_known-clause-goes : goal.returns-in_default-note_known-clause-goes
returns-in_default-note_known-clause-goes g c = yet_then c.pin_load.ensures.goes (yet_learnt c.pin_load.ensures.goes.hand c.learn_pins.ensures.known c.learn_pins.ensures.grows)
