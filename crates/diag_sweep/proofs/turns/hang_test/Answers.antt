use Rattle.diag_sweep.proofs.Going.{yet_itself, yet_learnt, yet_settled, yet_then}
use Rattle.diag_sweep.proofs.turns.hang_test.Goals as goal

pub returns-in_default-learn_hangs-clause-goes : goal.returns-in_default-learn_hangs-clause-goes
returns-in_default-learn_hangs-clause-goes g c =
    let tested = c.hang_load.ensures.goes in
    let settled = yet_then tested (yet_settled tested.hand c.settle_hangs.ensures) in
    yet_then settled (yet_learnt settled.hand c.learn_hangs.ensures.known c.learn_hangs.ensures.grows)

pub returns-clause-goes : goal.returns-clause-goes
returns-clause-goes g c =
    let tested = c.hang_load.ensures.goes in
    let settled = yet_then tested (yet_settled tested.hand c.settle_hangs.ensures) in
    yet_then settled (yet_learnt settled.hand c.learn_hangs.ensures.known c.learn_hangs.ensures.grows)

pub returns-in_default-note_hangs-clause-goes : goal.returns-in_default-note_hangs-clause-goes
returns-in_default-note_hangs-clause-goes g c =
    let tested = c.hang_load.ensures.goes in
    let settled = yet_then tested (yet_settled tested.hand c.settle_hangs.ensures) in
    yet_then settled (yet_learnt settled.hand c.learn_hangs.ensures.known c.learn_hangs.ensures.grows)
