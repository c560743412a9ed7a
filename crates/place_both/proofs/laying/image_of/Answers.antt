use Rattle.place_both.proofs.BothLemmas.{have-room}
use Rattle.place_both.proofs.laying.image_of.Goals as goal

pub returns-clause-found : goal.returns-clause-found
returns-clause-found c =
    (c.in_ok-image.ensures {u = tt}, have-room c.args.first.now c.args.second.now c.args.networks.now c.requires c.args.list.now c.in-Ok.plan c.in-Ok.ensures.found)
