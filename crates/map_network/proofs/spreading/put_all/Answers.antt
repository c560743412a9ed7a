use Rattle.map_network.specs.Spreading.{begins}
use Rattle.map_network.proofs.SpreadLemmas.{spreads_on}
use Rattle.map_network.proofs.spreading.put_all.Goals as goal

pub readers-init : goal.readers-init
readers-init c = begins

pub readers-preserved : goal.readers-preserved
readers-preserved c = spreads_on c.readers.invariant c.put.ensures
