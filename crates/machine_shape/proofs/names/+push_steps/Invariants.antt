use Rattle.std.proofs.Common.{length}
use Rattle.machine_shape.proofs.names.+push_steps.Given as goal

abbrev pub decreases-push_steps : goal.decreases-push_steps
decreases-push_steps l = length l.way.now
