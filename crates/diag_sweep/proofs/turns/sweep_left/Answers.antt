use Rattle.diag_sweep.proofs.Going.{goes_on, gone_on}
use Rattle.diag_sweep.proofs.turns.sweep_left.Goals as goal

pub rounds-preserved : goal.rounds-preserved
rounds-preserved g c = gone_on c.rounds.invariant c.left_turn.ensures.goes c.left_turn.ensures.advances

pub returns-in_err-left_turn-clause-goes : goal.returns-in_err-left_turn-clause-goes
returns-in_err-left_turn-clause-goes g c = goes_on c.rounds.invariant.goes c.left_turn.ensures.advances c.left_turn.ensures.goes

pub returns-then-not-branch-clause-goes : goal.returns-then-not-branch-clause-goes
returns-then-not-branch-clause-goes g c = goes_on c.rounds.invariant.goes c.left_turn.ensures.advances c.left_turn.ensures.goes
