use Rattle.machine_shape.proofs.HighLimits.{high_limits}
use Rattle.machine_shape.proofs.laws.limits_are_high.Goals as goal

pub returns : goal.returns
returns c = high_limits
