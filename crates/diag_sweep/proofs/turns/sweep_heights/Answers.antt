use Rattle.diag_sweep.proofs.Going.{goes_on, gone_on}
use Rattle.diag_sweep.proofs.turns.sweep_heights.Goals as goal

pub heights-preserved : goal.heights-preserved
heights-preserved g c = gone_on c.heights.invariant c.sweep_height.ensures.goes c.sweep_height.ensures.advances

pub returns-in_err-sweep_height-clause-goes : goal.returns-in_err-sweep_height-clause-goes
returns-in_err-sweep_height-clause-goes g c = goes_on c.heights.invariant.goes c.sweep_height.ensures.advances c.sweep_height.ensures.goes
