use Rattle.map_network.specs.Spreading.{begins}
use Rattle.map_network.proofs.spreading.try_one.Goals as goal

pub returns-in_default : goal.returns-in_default
returns-in_default c = begins

pub returns-then-table-len : goal.returns-then-table-len
returns-then-table-len c = begins
