use Rattle.place_both.proofs.BothLemmas.{joint-fits, joint-refused}
use Rattle.place_both.proofs.laying.plan_for.Goals as goal

pub returns-in-Ok-clause-found : goal.returns-in-Ok-clause-found
returns-in-Ok-clause-found c = joint-fits c.args.list.now c.args.first.now c.args.second.now c.args.networks.now c.in_ok-network.network c.in_ok-network.ensures.joint c.in-Ok.plan c.in-Ok.ensures.plan

pub no_place-requires : goal.no_place-requires
no_place-requires c = (c.args.list.now, c.in_ok-network.network, c.shape.ensures.shape, c.in-Err.ensures.fail)

pub returns-clause-refused : goal.returns-clause-refused
returns-clause-refused c =
    let network = c.in_ok-network.network in
    joint-refused c.args.list.now c.args.first.now c.args.second.now c.args.networks.now network c.in_ok-network.ensures.joint c.requires c.no_place.result (c.no_place.ensures c.args.list.now network c.shape.ensures.shape c.in-Err.ensures.fail)
