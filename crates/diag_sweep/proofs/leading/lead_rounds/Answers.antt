use Rattle.diag_sweep.proofs.Going.{goes_on, gone_on}
use Rattle.diag_sweep.proofs.leading.lead_rounds.Goals as goal

pub rounds-preserved : goal.rounds-preserved
rounds-preserved g c = gone_on c.rounds.invariant c.lead_depth.ensures.goes c.lead_depth.ensures.advances

pub returns-in_err-lead_depth-clause-goes : goal.returns-in_err-lead_depth-clause-goes
returns-in_err-lead_depth-clause-goes g c = goes_on c.rounds.invariant.goes c.lead_depth.ensures.advances c.lead_depth.ensures.goes

pub returns-then-not-has_given_up-clause-goes : goal.returns-then-not-has_given_up-clause-goes
returns-then-not-has_given_up-clause-goes g c = goes_on c.rounds.invariant.goes c.lead_depth.ensures.advances c.lead_depth.ensures.goes
