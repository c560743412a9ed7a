use Rattle.machine_shape.proofs.Vocabulary.{◌∙◌, numbers_in, levels_of}
use Rattle.machine_shape.proofs.{Sites.small_of, Weighing.levels_fit, Weighing.start_here, Weighing.small_here}
use Rattle.machine_shape.proofs.places.first_by.Goals as goal

pub weights_of-requires : goal.weights_of-requires
weights_of-requires c = levels_fit c.args.shape c.args.kind c.levels_of.result c.levels_of.ensures.levels

pub start_of-requires : goal.start_of-requires
start_of-requires c = small_here (numbers_in c.args.kind) c.weights_of.result c.levels_of.result (levels_of c.args.shape) c.weights_of.ensures c.levels_of.ensures.levels c.args.way.now c.requires (small_of c.args.shape c.args.kind)

pub returns : goal.returns
returns c = c.start_of.ensures ∙ start_here (numbers_in c.args.kind) c.weights_of.result c.levels_of.result (levels_of c.args.shape) c.weights_of.ensures c.levels_of.ensures.levels c.args.way.now
