use Rattle.diag_sweep.proofs.Going.{goes_on, gone_on}
use Rattle.diag_sweep.proofs.leading.lead_all.Goals as goal

pub depths-preserved : goal.depths-preserved
depths-preserved g c = gone_on c.depths.invariant c.lead_rounds.ensures.goes c.lead_rounds.ensures.advances

pub returns-in_err-lead_rounds-clause-goes : goal.returns-in_err-lead_rounds-clause-goes
returns-in_err-lead_rounds-clause-goes g c = goes_on c.depths.invariant.goes c.lead_rounds.ensures.advances c.lead_rounds.ensures.goes

pub returns-in_default-clause-goes : goal.returns-in_default-clause-goes
returns-in_default-clause-goes g c = goes_on c.depths.invariant.goes c.lead_rounds.ensures.advances c.lead_rounds.ensures.goes
