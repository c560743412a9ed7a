use Rattle.diag_sweep.proofs.Leaving.{closed_with}
use Rattle.diag_sweep.proofs.laws.closed_without_bad.Goals as goal

pub returns : goal.returns
returns c = closed_with
