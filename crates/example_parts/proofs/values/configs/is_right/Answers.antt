use Rattle.machine_shape.proofs.HighLimits.{high_limits}
use Rattle.example_parts.proofs.values.configs.is_right.Goals as goal

pub set_ticks-requires-clause-few : goal.set_ticks-requires-clause-few
set_ticks-requires-clause-few c = (high_limits _).ticks.0
