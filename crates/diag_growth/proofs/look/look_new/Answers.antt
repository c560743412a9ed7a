use Rattle.diag_growth.proofs.Vocabulary.{◌∙◌, ◌<◌, refl, sym, ap, subst, has_number, more_itself, on_both, on_ok_so}
use Rattle.diag_growth.proofs.Leaving.{look_plain, looked_offered, looked_tried, tried_tried, offered_marks, offer_links}
use Rattle.diag_growth.proofs.{Looking.look_within, Looking.look_other, Stages.grows_itself, Stages.grows_one, Stages.tried_none}
use Rattle.diag_known.proofs.Marking.{few_none, spends_in, spends_none}
use Rattle.diag_growth.proofs.look.look_new.Goals as goal

pub has-requires : goal.has-requires
has-requires g c = subst (λ n. c.args.look.link.cross.0 < n) (sym c.requires.marks.offered) (look_within c.requires.known (c.the_numbering_is_sound.ensures.numbered c.args.facts.now.shape) c.requires.look)

pub returns-then-has-clause-grows : goal.returns-then-has-clause-grows
returns-then-has-clause-grows g c = grows_itself c.requires.known (more_itself c.args.facts.now) c.requires.all refl

pub returns-then-has-clause-looked_each : goal.returns-then-has-clause-looked_each
returns-then-has-clause-looked_each g c = λ f e marks. looked_offered c.requires.known marks (look_plain c.requires.known (c.the_numbering_is_sound.ensures.numbered c.args.facts.now.shape) c.requires.look) c.requires.new (sym c.has.ensures ∙ c.if-has.true)

pub returns-in_default-clause-grows : goal.returns-in_default-clause-grows
returns-in_default-clause-grows g c = grows_itself c.requires.known (more_itself c.args.facts.now) c.requires.all refl

pub try_offer-requires-clause-ready : goal.try_offer-requires-clause-ready
try_offer-requires-clause-ready g c = record { known = c.requires.known; offer = c.in-Ok.ensures.offer; marks = c.requires.marks }

pub try_offer-requires-clause-wire : goal.try_offer-requires-clause-wire
try_offer-requires-clause-wire g c = ap (has_number c.args.marks.now.barred) c.in-Ok.ensures.of_look.wire ∙ c.requires.free

pub try_offer-requires-clause-first : goal.try_offer-requires-clause-first
try_offer-requires-clause-first g c = ap (has_number c.args.marks.now.offered) c.in-Ok.ensures.of_look.cross ∙ sym c.has.ensures ∙ c.if-has.false

pub returns-clause-grows : goal.returns-clause-grows
returns-clause-grows g c = grows_one c.try_offer.ensures.known c.try_offer.ensures.all c.try_offer.ensures.more (ap (has_number c.args.marks.now.barred) c.in-Ok.ensures.of_look.wire ∙ c.requires.free)
    (subst (λ n. c.in-Ok.offer.wire.0 < n) (sym c.requires.marks.barred) c.in-Ok.ensures.offer.within) c.try_offer.ensures.barred

pub returns-clause-tried_each : goal.returns-clause-tried_each
returns-clause-tried_each g c = on_ok_so c.try_offer.result c.try_offer.ensures.found_each (λ found f e marks. tried_tried (found f e marks.are))

pub returns-clause-looked_each : goal.returns-clause-looked_each
returns-clause-looked_each g c =
    let grows = grows_one c.try_offer.ensures.known c.try_offer.ensures.all c.try_offer.ensures.more (ap (has_number c.args.marks.now.barred) c.in-Ok.ensures.of_look.wire ∙ c.requires.free)
    (subst (λ n. c.in-Ok.offer.wire.0 < n) (sym c.requires.marks.barred) c.in-Ok.ensures.offer.within) c.try_offer.ensures.barred in
    on_ok_so c.try_offer.result c.try_offer.ensures.found_each (λ found f e marks. looked_tried c.try_offer.ensures.advances.more c.requires.look c.in-Ok.ensures.of_look c.requires.new (subst (λ n. c.args.look.link.wire.0 < n) (sym c.requires.marks.barred) (look_other c.requires.known (c.the_numbering_is_sound.ensures.numbered c.args.facts.now.shape) c.requires.look)) grows (found f e marks.are))

pub returns-clause-marks_each : goal.returns-clause-marks_each
returns-clause-marks_each g c =
    let grows = grows_one c.try_offer.ensures.known c.try_offer.ensures.all c.try_offer.ensures.more (ap (has_number c.args.marks.now.barred) c.in-Ok.ensures.of_look.wire ∙ c.requires.free)
    (subst (λ n. c.in-Ok.offer.wire.0 < n) (sym c.requires.marks.barred) c.in-Ok.ensures.offer.within) c.try_offer.ensures.barred in
    let more = c.try_offer.ensures.advances.more in
    on_both c.try_offer.result c.try_offer.ensures.found_each c.try_offer.ensures.marks_each
    (λ found each f e marks. offered_marks c.requires.look c.in-Ok.ensures.of_look grows more marks (each f e marks.are) c.try_offer.ensures.offered
    (looked_tried more c.requires.look c.in-Ok.ensures.of_look c.requires.new (subst (λ n. c.args.look.link.wire.0 < n) (sym c.requires.marks.barred) (look_other c.requires.known (c.the_numbering_is_sound.ensures.numbered c.args.facts.now.shape) c.requires.look)) grows (found f e marks.are)))

pub returns-clause-spends_each : goal.returns-clause-spends_each
returns-clause-spends_each g c = λ f e marks. c.try_offer.ensures.spends_each f e marks.are

pub returns-then-has-clause-tried_each : goal.returns-then-has-clause-tried_each
returns-then-has-clause-tried_each g c = λ f e marks. tried_none refl

pub returns-then-has-clause-spends_each : goal.returns-then-has-clause-spends_each
returns-then-has-clause-spends_each g c = λ f e marks. few_none refl refl

pub returns-in_default-clause-spends_each : goal.returns-in_default-clause-spends_each
returns-in_default-clause-spends_each g c = λ f e marks. few_none refl refl

pub returns-then-has-clause-spends : goal.returns-then-has-clause-spends
returns-then-has-clause-spends g c = spends_none refl refl

pub returns-in_default-clause-spends : goal.returns-in_default-clause-spends
returns-in_default-clause-spends g c = spends_none refl refl

pub returns-clause-spends : goal.returns-clause-spends
returns-clause-spends g c = spends_in (offer_links c.requires.look c.in-Ok.ensures.of_look) c.try_offer.ensures.spends
