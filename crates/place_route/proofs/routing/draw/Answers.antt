use Rattle.place_route.proofs.Limits.{closed_fit, on_fit}
use Rattle.place_route.proofs.routing.draw.Goals as goal

pub image_of-requires-clause-few : goal.image_of-requires-clause-few
image_of-requires-clause-few c =
    closed_fit c.args.defects.now.shape c.args.defects.now.list c.args.network.now c.args.plan.now c.args.layout.now.ports.items c.args.layout.now.visits.items c.requires.plan c.in_ok-config.config.config c.in_ok-config.ensures.routed

pub image_of-requires-clause-few_on : goal.image_of-requires-clause-few_on
image_of-requires-clause-few_on c =
    on_fit c.args.defects.now.shape c.args.defects.now.list c.args.network.now c.args.plan.now c.args.layout.now.ports.items c.args.layout.now.visits.items c.requires.plan c.in_ok-config.config.config c.in_ok-config.ensures.routed c.requires.laid.few
