use Rattle.map_network.specs.Spreading.{begins}
use Rattle.map_network.proofs.SpreadLemmas.{spreads_on}
use Rattle.map_network.proofs.spreading.run.Goals as goal

pub turns-init : goal.turns-init
turns-init c = begins

pub turns-preserved : goal.turns-preserved
turns-preserved c = spreads_on c.turns.invariant (c.in_ok-try_one-in-Some.ensures {u = tt})
