use Rattle.diag_sweep.proofs.{Going.goes_on, Holding.held_on}
use Rattle.diag_sweep.proofs.turns.hang_wanted.Goals as goal

pub loads-preserved : goal.loads-preserved
loads-preserved g c = held_on c.loads.invariant c.hang_turn.ensures.goes c.hang_turn.ensures.advances c.in_ok-hang_turn.ensures.forest

pub returns-in_err-hang_turn-clause-goes : goal.returns-in_err-hang_turn-clause-goes
returns-in_err-hang_turn-clause-goes g c = goes_on c.loads.invariant.goes c.hang_turn.ensures.advances c.hang_turn.ensures.goes

pub returns-then-not-branch-clause-goes : goal.returns-then-not-branch-clause-goes
returns-then-not-branch-clause-goes g c = goes_on c.loads.invariant.goes c.hang_turn.ensures.advances c.hang_turn.ensures.goes
