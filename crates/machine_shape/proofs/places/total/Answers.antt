use Rattle.machine_shape.specs.Kinds.{numbers_in}
use Rattle.machine_shape.proofs.Weighing.{levels_fit, root_each}
use Rattle.machine_shape.proofs.places.total.Goals as goal

pub weights_of-weights-requires : goal.weights_of-weights-requires
weights_of-weights-requires c = levels_fit c.args.shape c.args.kind c.levels_of-levels.result c.levels_of-levels.ensures.levels

pub size_of-requires-clause-fits : goal.size_of-requires-clause-fits
size_of-requires-clause-fits c = levels_fit c.args.shape c.args.kind c.levels_of-levels.result c.levels_of-levels.ensures.levels

pub size_of-requires-clause-each : goal.size_of-requires-clause-each
size_of-requires-clause-each c = root_each (numbers_in c.args.kind) c.weights_of-weights.result c.levels_of-levels.result c.weights_of-weights.ensures
