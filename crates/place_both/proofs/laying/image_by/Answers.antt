use Rattle.place_both.proofs.BothLemmas.{plain-are, plain-choice}
use Rattle.place_both.proofs.laying.image_by.Goals as goal

pub drawn-requires-clause-networks : goal.drawn-requires-clause-networks
drawn-requires-clause-networks c = plain-are c.args.first.now c.args.second.now c.args.networks.now c.requires.networks

pub drawn-requires-clause-choice : goal.drawn-requires-clause-choice
drawn-requires-clause-choice c = plain-choice c.args.first.now c.args.second.now c.args.networks.now c.requires.networks c.args.list.now c.args.plan.now c.requires.plan

pub drawn-requires-clause-plan : goal.drawn-requires-clause-plan
drawn-requires-clause-plan c = c.requires.plan.plan

pub drawn-requires-clause-fits : goal.drawn-requires-clause-fits
drawn-requires-clause-fits c = c.requires.plan.fits
