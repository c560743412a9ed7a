use Rattle.diag_sweep.proofs.{Going.goes_on, Holding.held_on}
use Rattle.diag_sweep.proofs.telling.tell_all.Goals as goal

pub looks-preserved : goal.looks-preserved
looks-preserved g c = held_on c.looks.invariant c.tell_turn.ensures.goes c.tell_turn.ensures.advances c.in_ok-tell_turn.ensures.forest

pub returns-in_err-tell_turn-clause-goes : goal.returns-in_err-tell_turn-clause-goes
returns-in_err-tell_turn-clause-goes g c = goes_on c.looks.invariant.goes c.tell_turn.ensures.advances c.tell_turn.ensures.goes

pub returns-then-not-branch-clause-goes : goal.returns-then-not-branch-clause-goes
returns-then-not-branch-clause-goes g c = goes_on c.looks.invariant.goes c.tell_turn.ensures.advances c.tell_turn.ensures.goes
