use Rattle.std.proofs.Common.{refl}
use Rattle.diag_growth.proofs.Looking.{offer_is, other_within}
use Rattle.diag_growth.proofs.look.offer_of.Goals as goal

pub returns-clause-offer : goal.returns-clause-offer
returns-clause-offer c = offer_is c.requires.known (c.the_numbering_is_sound.ensures.numbered c.args.facts.now.shape) c.requires.look c.requires.new refl refl refl c.in_ok-others.ensures

pub earlier_links-requires-clause-other : goal.earlier_links-requires-clause-other
earlier_links-requires-clause-other c = other_within (c.the_numbering_is_sound.ensures.numbered c.args.facts.now.shape) c.requires.look.link
