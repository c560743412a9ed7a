use Rattle.std.proofs.Common.{get_or, true, arith}
use Rattle.map_network.proofs.CellLemmas.{cells_are}
use Rattle.map_network.proofs.build.first_pin.Goals as goal

pub returns : goal.returns
returns c = cells_are c.pin_mask.result (λ pins. get_or pins 0 true) (omega arith) c.pin_mask.ensures
