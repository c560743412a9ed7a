use Rattle.diag_known.proofs.Vocabulary.{HoldsFor, of_told}
use Rattle.diag_known.proofs.{Later.known_later, Later.ways_later, Seconds.both_lost, Seconds.offer_still}
use Rattle.diag_known.proofs.Offering.{few_first, few_both, spends_first, spends_both}
use Rattle.diag_known.proofs.Settling.{if_ok_so, on_ok_so, over_later, over_offers}
use Rattle.diag_known.proofs.hang.toggle_first.Goals as goal

pub returns-in_err-kept-clause-spends_each : goal.returns-in_err-kept-clause-spends_each
returns-in_err-kept-clause-spends_each g c = λ f e marks. few_first marks c.requires.offer c.hang.ensures.offers

pub returns-then-kept-clause-spends_each : goal.returns-then-kept-clause-spends_each
returns-then-kept-clause-spends_each g c = λ f e marks. few_first marks c.requires.offer c.hang.ensures.offers

pub hang-requires-2-clause-known : goal.hang-requires-2-clause-known
hang-requires-2-clause-known g c = known_later c.hang.ensures.advances.more c.requires.known

pub hang-requires-2-clause-offer : goal.hang-requires-2-clause-offer
hang-requires-2-clause-offer g c = offer_still c.hang.ensures.advances.more.shape c.requires.offer

pub hang-requires-2-clause-way : goal.hang-requires-2-clause-way
hang-requires-2-clause-way g c = (ways_later c.hang.ensures.advances.more c.in-Ok.ensures).second

pub hang-requires-2-clause-marks : goal.hang-requires-2-clause-marks
hang-requires-2-clause-marks g c = over_later c.hang.ensures.advances.more (over_offers c.args.offer.now.foot.cross.0 c.hang.ensures.offers c.requires.marks)

pub returns-clause-lost_each : goal.returns-clause-lost_each
returns-clause-lost_each g c = if_ok_so c.hang-2.result c.hang-2.ensures.lost_each (λ yes none f e is_no.
    both_lost c.requires.known c.requires.offer c.in-Ok.ensures c.hang-2.ensures.advances.more (c.in_ok-kept.ensures.lost_each f (c.hang-2.ensures.advances.narrows f e) c.if-kept.false) (none f e is_no))

pub returns-in_err-kept-clause-marks : goal.returns-in_err-kept-clause-marks
returns-in_err-kept-clause-marks g c = over_later c.hang.ensures.advances.more (over_offers c.args.offer.now.foot.cross.0 c.hang.ensures.offers c.requires.marks)

pub returns-then-kept-clause-marks : goal.returns-then-kept-clause-marks
returns-then-kept-clause-marks g c = over_later c.hang.ensures.advances.more (over_offers c.args.offer.now.foot.cross.0 c.hang.ensures.offers c.requires.marks)

pub returns-clause-marks : goal.returns-clause-marks
returns-clause-marks g c = over_later c.hang-2.ensures.advances.more (over_offers c.args.offer.now.foot.cross.0 c.hang-2.ensures.offers
    (over_later c.hang.ensures.advances.more (over_offers c.args.offer.now.foot.cross.0 c.hang.ensures.offers c.requires.marks)))

pub returns-in_err-kept-clause-spends : goal.returns-in_err-kept-clause-spends
returns-in_err-kept-clause-spends g c = spends_first c.requires.marks c.requires.offer c.requires.first c.hang.ensures.offers

pub returns-then-kept-clause-spends : goal.returns-then-kept-clause-spends
returns-then-kept-clause-spends g c = spends_first c.requires.marks c.requires.offer c.requires.first c.hang.ensures.offers

pub returns-clause-spends : goal.returns-clause-spends
returns-clause-spends g c = spends_both _ _ _ c.requires.marks c.requires.offer c.requires.first c.hang.ensures.advances.more
    (over_later c.hang.ensures.advances.more (over_offers c.args.offer.now.foot.cross.0 c.hang.ensures.offers c.requires.marks)) c.hang.ensures.offers c.hang-2.ensures.offers

pub returns-clause-marks_each : goal.returns-clause-marks_each
returns-clause-marks_each g c = on_ok_so c.hang-2.result c.hang-2.ensures.marks_each
    (λ each f e marks. each f e (c.in_ok-kept.ensures.marks_each f (c.hang-2.ensures.advances.narrows f e) marks))

pub returns-clause-spends_each : goal.returns-clause-spends_each
returns-clause-spends_each g c = λ f e marks.
    let before = c.hang-2.ensures.advances.narrows f e in
    few_both _ _ _ marks c.requires.offer c.hang.ensures.advances.more (of_told (λ h. HoldsFor c.args.facts.now h → HoldsFor c.hang.new.facts h) (c.hang.ensures.advances.explained f before))
    (c.in_ok-kept.ensures.marks_each f before marks) c.hang.ensures.offers c.hang-2.ensures.offers
