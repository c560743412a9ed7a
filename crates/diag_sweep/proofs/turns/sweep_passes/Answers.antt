use Rattle.diag_sweep.proofs.Going.{goes_on, gone_on}
use Rattle.diag_sweep.proofs.turns.sweep_passes.Goals as goal

pub passes-preserved : goal.passes-preserved
passes-preserved g c = gone_on c.passes.invariant c.pass_turn.ensures.goes c.pass_turn.ensures.advances

pub returns-in_err-pass_turn-clause-goes : goal.returns-in_err-pass_turn-clause-goes
returns-in_err-pass_turn-clause-goes g c = goes_on c.passes.invariant.goes c.pass_turn.ensures.advances c.pass_turn.ensures.goes

pub returns-then-not-branch-clause-goes : goal.returns-then-not-branch-clause-goes
returns-then-not-branch-clause-goes g c = goes_on c.passes.invariant.goes c.pass_turn.ensures.advances c.pass_turn.ensures.goes
