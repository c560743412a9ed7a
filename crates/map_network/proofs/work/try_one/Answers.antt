use Rattle.map_network.specs.Joining.{none}
use Rattle.map_network.proofs.work.try_one.Goals as goal

pub returns-then-table-len : goal.returns-then-table-len
returns-then-table-len c = none

pub returns-then-readers-ne1 : goal.returns-then-readers-ne1
returns-then-readers-ne1 c = none
