use Rattle.diag_growth.proofs.Vocabulary.{◌∙◌, ◌<◌, refl, sym, ap, subst, inl, inr, has_number, Shape, wires_of, barred, lost, all_still}
use Rattle.diag_growth.proofs.Vocabulary.{known_later, few_then, few_barred, spends_then, spends_barred, on_ok_so}
use Rattle.diag_growth.proofs.{Explained.held, Learning.none_more, Learning.offers_barred, Learning.barred_twice, Learning.ready_later}
use Rattle.diag_growth.proofs.learn.try_offer.Goals as goal

pub returns-in_err-second-clause-known : goal.returns-in_err-second-clause-known
returns-in_err-second-clause-known g c = known_later c.second_foot.ensures.advances.more c.requires.ready.known

pub returns-in_err-second-clause-more : goal.returns-in_err-second-clause-more
returns-in_err-second-clause-more g c = none_more c.args.offer.now.wire.0 refl

pub returns-in_err-second-clause-barred : goal.returns-in_err-second-clause-barred
returns-in_err-second-clause-barred g c = inl c.second_foot.ensures.spends.barred

pub returns-in_default-clause-known : goal.returns-in_default-clause-known
returns-in_default-clause-known g c = known_later c.second_foot.ensures.advances.more c.requires.ready.known

pub returns-in_default-clause-more : goal.returns-in_default-clause-more
returns-in_default-clause-more g c = none_more c.args.offer.now.wire.0 refl

pub returns-in_default-clause-found_each : goal.returns-in_default-clause-found_each
returns-in_default-clause-found_each g c = λ f e marks. lost c.second_foot.ensures.spends.barred (rw c.in_default.is at (c.in_ok-second.ensures.none_each f e marks))

pub returns-in_default-clause-barred : goal.returns-in_default-clause-barred
returns-in_default-clause-barred g c = inl c.second_foot.ensures.spends.barred

pub try_feet-requires-clause-ready : goal.try_feet-requires-clause-ready
try_feet-requires-clause-ready g c = ready_later c.second_foot.ensures.advances.more c.requires.ready c.second_foot.ensures.marks

pub try_feet-requires-clause-over : goal.try_feet-requires-clause-over
try_feet-requires-clause-over g c = rw c.in-Some.is at c.in_ok-second.ensures.some

pub try_feet-requires-clause-first : goal.try_feet-requires-clause-first
try_feet-requires-clause-first g c = ap (λ bits. has_number bits c.args.offer.now.wire.0) c.second_foot.ensures.spends.barred ∙ c.requires.wire

pub returns-clause-found_each : goal.returns-clause-found_each
returns-clause-found_each g c = on_ok_so c.try_feet.result c.try_feet.ensures.tried_each
    (λ tried f e marks. barred (barred_twice c.args.marks.now c.args.offer.now.wire.0 c.second_foot.ensures.spends.barred c.try_feet.ensures.barred) (tried f e))

pub returns-clause-marks_each : goal.returns-clause-marks_each
returns-clause-marks_each g c = on_ok_so c.try_feet.result c.try_feet.ensures.marks_each
    (λ each f e marks. each f e (c.in_ok-second.ensures.marks_each f (c.try_feet.ensures.advances.narrows f e) marks))

pub returns-clause-barred : goal.returns-clause-barred
returns-clause-barred g c = inr (barred_twice c.args.marks.now c.args.offer.now.wire.0 c.second_foot.ensures.spends.barred c.try_feet.ensures.barred)

pub returns-clause-offered : goal.returns-clause-offered
returns-clause-offered g c = offers_barred c.args.offer.now.wire.0 c.second_foot.ensures.spends.offered c.try_feet.ensures.barred

pub returns-clause-spends : goal.returns-clause-spends
returns-clause-spends g c =
    let more = c.second_foot.ensures.advances.more in
    let w = c.args.offer.now.wire.0 in
    spends_then more c.second_foot.ensures.spends.spends
    (spends_barred _ _ c.second_foot.ensures.marks (subst (λ (m : Shape). w < wires_of m) (sym more.shape) c.requires.ready.offer.within)
    (ap (λ bits. has_number bits w) c.second_foot.ensures.spends.barred ∙ c.requires.wire) c.try_feet.ensures.barred c.try_feet.ensures.loads)

pub returns-clause-spends_each : goal.returns-clause-spends_each
returns-clause-spends_each g c =
    let more = c.second_foot.ensures.advances.more in
    let w = c.args.offer.now.wire.0 in
    λ f e marks. let before = c.try_feet.ensures.advances.narrows f e in
    few_then more (held c.second_foot.ensures.advances before) (c.second_foot.ensures.spends_each f before marks)
    (few_barred _ _ c.second_foot.ensures.marks (subst (λ (m : Shape). w < wires_of m) (sym more.shape) c.requires.ready.offer.within)
    (ap (λ bits. has_number bits w) c.second_foot.ensures.spends.barred ∙ c.requires.wire) c.try_feet.ensures.barred c.try_feet.ensures.loads)

pub returns-in_err-second-clause-all : goal.returns-in_err-second-clause-all
returns-in_err-second-clause-all g c = all_still c.args.facts.now c.second_foot.new.facts c.second_foot.ensures.trial.apart c.requires.all

pub returns-in_default-clause-all : goal.returns-in_default-clause-all
returns-in_default-clause-all g c = all_still c.args.facts.now c.second_foot.new.facts c.second_foot.ensures.trial.apart c.requires.all

pub try_feet-requires-clause-all : goal.try_feet-requires-clause-all
try_feet-requires-clause-all g c = all_still c.args.facts.now c.second_foot.new.facts c.second_foot.ensures.trial.apart c.requires.all
