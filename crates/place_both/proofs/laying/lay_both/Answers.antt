use Rattle.place_both.proofs.BothLemmas.{both-took}
use Rattle.place_both.proofs.laying.lay_both.Goals as goal

pub returns : goal.returns
returns c = let e = c.image_for.ensures in record { took = λ o. both-took c.args.list.now c.args.first.now c.args.second.now c.image_for.result o e.found e.refused }
