use Rattle.diag_growth.proofs.Vocabulary.{◌<◌, refl, sym, subst, inl, inr, KnownWires, IsKnown, KnowsAll, all_still, known_later}
use Rattle.diag_growth.proofs.Vocabulary.{stands_later, more_then, offer_stands, marks_barred, marks_still, over_barred, over_later}
use Rattle.diag_growth.proofs.Learning.{none_more, learnt_more, learnt_has, settled_known, settled_all, learnt_marks}
use Rattle.diag_growth.proofs.learn.try_feet.Goals as goal

pub bar-requires : goal.bar-requires
bar-requires g c = subst (λ n. c.args.offer.now.wire.0 < n) (sym c.requires.ready.marks.barred) c.requires.ready.offer.within

pub returns-in_err-good-clause-known : goal.returns-in_err-good-clause-known
returns-in_err-good-clause-known g c = known_later c.is_good_over.ensures.advances.more c.requires.ready.known

pub returns-in_err-good-clause-more : goal.returns-in_err-good-clause-more
returns-in_err-good-clause-more g c = none_more c.args.offer.now.wire.0 refl

pub returns-then-not-good-clause-known : goal.returns-then-not-good-clause-known
returns-then-not-good-clause-known g c = known_later c.is_good_over.ensures.advances.more c.requires.ready.known

pub returns-then-not-good-clause-more : goal.returns-then-not-good-clause-more
returns-then-not-good-clause-more g c = none_more c.args.offer.now.wire.0 refl

pub returns-then-not-good-clause-tried_each : goal.returns-then-not-good-clause-tried_each
returns-then-not-good-clause-tried_each g c = λ f e. inr (c.in_ok-good.ensures.bad_each f e c.if-not-good.true)

pub returns-then-not-good-clause-marks_each : goal.returns-then-not-good-clause-marks_each
returns-then-not-good-clause-marks_each g c = λ f e marks. marks_still c.is_good_over.ensures.advances.more (marks_barred c.args.offer.now.wire.0 marks c.bar.ensures)

pub returns-in_err-learn-clause-known : goal.returns-in_err-learn-clause-known
returns-in_err-learn-clause-known g c = subst (λ (known : KnownWires). IsKnown c.is_good_over.new.facts known) (sym c.in_err-learn.ensures.same) (known_later c.is_good_over.ensures.advances.more c.requires.ready.known)

pub returns-in_err-learn-clause-all : goal.returns-in_err-learn-clause-all
returns-in_err-learn-clause-all g c = subst (λ (known : KnownWires). KnowsAll c.is_good_over.new.facts known.steps) (sym c.in_err-learn.ensures.same) (all_still c.args.facts.now c.is_good_over.new.facts c.is_good_over.ensures.set c.requires.all)

pub returns-clause-known : goal.returns-clause-known
returns-clause-known g c = settled_known c.settle.result c.settle.ensures.settled c.settle.ensures.refused c.settle.ensures.more (c.in_ok-good.ensures.good c.if-not-good.false) (known_later c.is_good_over.ensures.advances.more c.requires.ready.known) c.requires.ready.offer.new (stands_later c.is_good_over.ensures.advances.more (offer_stands c.requires.ready.offer c.requires.over)) c.in_ok-learn.ensures.learnt

pub returns-clause-all : goal.returns-clause-all
returns-clause-all g c = settled_all c.settle.result c.settle.ensures.settled c.settle.ensures.refused (c.in_ok-good.ensures.good c.if-not-good.false) (all_still c.args.facts.now c.is_good_over.new.facts c.is_good_over.ensures.set c.requires.all) c.in_ok-learn.ensures.learnt

pub returns-in_err-learn-clause-more : goal.returns-in_err-learn-clause-more
returns-in_err-learn-clause-more g c = none_more c.args.offer.now.wire.0 c.in_err-learn.ensures.same

pub returns-clause-more : goal.returns-clause-more
returns-clause-more g c = learnt_more c.in_ok-learn.ensures.learnt

pub returns-clause-tried_each : goal.returns-clause-tried_each
returns-clause-tried_each g c = λ f e. inl (learnt_has c.in_ok-learn.ensures.learnt)

pub returns-clause-marks_each : goal.returns-clause-marks_each
returns-clause-marks_each g c = λ f e marks. learnt_marks (more_then c.is_good_over.ensures.advances.more c.settle.ensures.more) c.in_ok-learn.ensures.learnt (marks_barred c.args.offer.now.wire.0 marks c.bar.ensures)

pub returns-in_err-learn-clause-marks : goal.returns-in_err-learn-clause-marks
returns-in_err-learn-clause-marks g c = over_later c.is_good_over.ensures.advances.more (over_barred c.args.offer.now.wire.0 c.requires.ready.marks c.bar.ensures)

pub returns-in_err-good-clause-marks : goal.returns-in_err-good-clause-marks
returns-in_err-good-clause-marks g c = over_later c.is_good_over.ensures.advances.more (over_barred c.args.offer.now.wire.0 c.requires.ready.marks c.bar.ensures)

pub returns-then-not-good-clause-marks : goal.returns-then-not-good-clause-marks
returns-then-not-good-clause-marks g c = over_later c.is_good_over.ensures.advances.more (over_barred c.args.offer.now.wire.0 c.requires.ready.marks c.bar.ensures)

pub returns-clause-marks : goal.returns-clause-marks
returns-clause-marks g c = over_later (more_then c.is_good_over.ensures.advances.more c.settle.ensures.more) (over_barred c.args.offer.now.wire.0 c.requires.ready.marks c.bar.ensures)

pub returns-in_err-good-clause-all : goal.returns-in_err-good-clause-all
returns-in_err-good-clause-all g c = all_still c.args.facts.now c.is_good_over.new.facts c.is_good_over.ensures.set c.requires.all

pub returns-then-not-good-clause-all : goal.returns-then-not-good-clause-all
returns-then-not-good-clause-all g c = all_still c.args.facts.now c.is_good_over.new.facts c.is_good_over.ensures.set c.requires.all
