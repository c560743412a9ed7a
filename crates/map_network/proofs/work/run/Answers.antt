use Rattle.map_network.specs.Joining.{none}
use Rattle.map_network.proofs.PutLemmas.{puts_on}
use Rattle.map_network.proofs.work.run.Goals as goal

pub turns-init : goal.turns-init
turns-init c = none

pub turns-preserved : goal.turns-preserved
turns-preserved c = puts_on c.turns.invariant (c.in_ok-try_one-in-Some.ensures {u = tt})
