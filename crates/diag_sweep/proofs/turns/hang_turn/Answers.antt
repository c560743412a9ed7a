use Rattle.diag_sweep.proofs.Vocabulary.{◌∙◌, ap, wires_of}
use Rattle.diag_sweep.proofs.{Going.advances_back, Going.goes_back, Holding.held_retaken}
use Rattle.diag_sweep.proofs.turns.hang_turn.Goals as goal

pub retake-requires : goal.retake-requires
retake-requires g c = c.wires.ensures.len ∙ ap wires_of c.hang_test-tested.ensures.goes.hand.known.shape

pub returns-clause-goes : goal.returns-clause-goes
returns-clause-goes g c = goes_back c.wires.ensures.whole c.wires.ensures.known c.retake.ensures.retaken c.hang_test-tested.ensures.goes

pub returns-clause-advances : goal.returns-clause-advances
returns-clause-advances g c = advances_back c.requires.hand.all c.hang_test-tested.ensures.goes.grows c.wires.ensures.whole c.retake.ensures.retaken c.hang_test-tested.ensures.advances

pub returns-clause-forest : goal.returns-clause-forest
returns-clause-forest g c = held_retaken _ _ _ c.hang_test-tested.result c.retake.ensures.retaken c.hang_test-tested.ensures.forest
