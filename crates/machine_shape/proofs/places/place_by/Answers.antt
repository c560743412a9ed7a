use Rattle.machine_shape.proofs.Vocabulary.{ap, ◌∙◌, numbers_in, levels_of, Place}
use Rattle.machine_shape.proofs.Weighing.{levels_fit, steps_here, place_here}
use Rattle.machine_shape.proofs.places.place_by.Goals as goal

pub weights_of-requires : goal.weights_of-requires
weights_of-requires c = levels_fit c.args.shape c.args.kind c.levels_of.result c.levels_of.ensures.levels

pub site_of-requires : goal.site_of-requires
site_of-requires c = steps_here (numbers_in c.args.kind) c.weights_of.result c.levels_of.result (levels_of c.args.shape) c.weights_of.ensures c.levels_of.ensures.levels c.args.number c.requires

pub returns-clause-path : goal.returns-clause-path
returns-clause-path c = c.site_of.ensures.path ∙ ap (λ (q : Place). q.path) (place_here (numbers_in c.args.kind) c.weights_of.result c.levels_of.result (levels_of c.args.shape) c.weights_of.ensures c.levels_of.ensures.levels c.args.number)

pub returns-clause-position : goal.returns-clause-position
returns-clause-position c = c.site_of.ensures.position ∙ ap (λ (q : Place). q.position) (place_here (numbers_in c.args.kind) c.weights_of.result c.levels_of.result (levels_of c.args.shape) c.weights_of.ensures c.levels_of.ensures.levels c.args.number)
