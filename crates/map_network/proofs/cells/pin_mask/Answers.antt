use Rattle.map_network.proofs.CellLemmas.{pin_gives}
use Rattle.map_network.proofs.cells.pin_mask.Goals as goal

pub returns : goal.returns
returns c = pin_gives c.args.pin c.lane_word.result c.requires c.lane_word.ensures
