use Rattle.diag_sweep.proofs.Vocabulary.{◌∙◌, ap, wires_of}
use Rattle.diag_sweep.proofs.Going.{advances_back, goes_back}
use Rattle.diag_sweep.proofs.turns.pin_turn.Goals as goal

pub retake-requires : goal.retake-requires
retake-requires g c = c.wires.ensures.len ∙ ap wires_of c.pin_test-tested.ensures.goes.hand.known.shape

pub returns-clause-goes : goal.returns-clause-goes
returns-clause-goes g c = goes_back c.wires.ensures.whole c.wires.ensures.known c.retake.ensures.retaken c.pin_test-tested.ensures.goes

pub returns-clause-advances : goal.returns-clause-advances
returns-clause-advances g c = advances_back c.requires.hand.all c.pin_test-tested.ensures.goes.grows c.wires.ensures.whole c.retake.ensures.retaken c.pin_test-tested.ensures.advances
