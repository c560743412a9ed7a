use Rattle.diag_growth.proofs.Vocabulary.{◌∙◌, refl, sym, subst, ◌<◌, few_none, lost_one, more_itself}
use Rattle.diag_known.proofs.Offering.{few_other, spends_on_none, spends_other}
use Rattle.diag_known.proofs.Settling.{second_lost, marks_second, link_still, on_both, if_ok_so, kept_each, over_later, over_second}
use Rattle.diag_growth.proofs.Explained.{second_each, faulty_each}
use Rattle.diag_growth.proofs.feet.try_other.Goals as goal

pub keeps_cross-requires : goal.keeps_cross-requires
keeps_cross-requires g c = (c.requires.ready.offer.others c.requires.other.place c.args.other c.requires.other.here).within

pub returns-then-keeps_cross-clause-spends_each : goal.returns-then-keeps_cross-clause-spends_each
returns-then-keeps_cross-clause-spends_each g c = λ f e marks. few_none refl refl

pub has-requires : goal.has-requires
has-requires g c = subst (λ n. c.args.other.cross.0 < n) (sym c.requires.ready.marks.second) (c.requires.ready.offer.others c.requires.other.place c.args.other c.requires.other.here).within

pub returns-then-has-clause-lost_each : goal.returns-then-has-clause-lost_each
returns-then-has-clause-lost_each g c = λ f e marks is_no. lost_one (second_lost (marks.seconds c.args.other.cross.0 (sym c.has.ensures ∙ c.if-has.true)) (c.requires.ready.offer.others c.requires.other.place c.args.other c.requires.other.here).at
    c.requires.ready.offer.new (sym c.keeps_cross.ensures ∙ c.if-keeps_cross.false))

pub returns-then-has-clause-spends_each : goal.returns-then-has-clause-spends_each
returns-then-has-clause-spends_each g c = λ f e marks. few_none refl refl

pub put_second-requires : goal.put_second-requires
put_second-requires g c = subst (λ n. c.args.other.cross.0 < n) (sym c.requires.ready.marks.second) (c.requires.ready.offer.others c.requires.other.place c.args.other c.requires.other.here).within

pub toggle_over-requires-clause-foot : goal.toggle_over-requires-clause-foot
toggle_over-requires-clause-foot g c = c.requires.ready.offer.others c.requires.other.place c.args.other c.requires.other.here

pub toggle_over-requires-clause-differ : goal.toggle_over-requires-clause-differ
toggle_over-requires-clause-differ g c = c.requires.ready.offer.differ c.requires.other.place c.args.other c.requires.other.here

pub returns-clause-lost_each : goal.returns-clause-lost_each
returns-clause-lost_each g c = if_ok_so c.toggle_over.result c.toggle_over.ensures.lost_each (λ yes lost f e marks is_no. lost_one (lost f e is_no))

pub returns-clause-marks_each : goal.returns-clause-marks_each
returns-clause-marks_each g c =
    let x = c.args.other.cross.0 in
    let more = c.toggle_over.ensures.advances.more in
    let link = c.requires.ready.offer.others c.requires.other.place c.args.other c.requires.other.here in
    on_both c.toggle_over.result
    (kept_each _ _ _ x c.toggle_over.result (more_itself c.toggle_over.new.facts) c.toggle_over.ensures.kept (faulty_each _ _ _ c.toggle_over.result c.requires.ready.offer.new c.toggle_over.ensures.lost_each))
    (second_each _ _ c.toggle_over.result (link_still more link) c.toggle_over.ensures.kept c.toggle_over.ensures.lost_each)
    (λ kept mark f e marks. marks_second x marks more (kept f e) link.within c.put_second.ensures (mark f e))

pub returns-clause-spends_each : goal.returns-clause-spends_each
returns-clause-spends_each g c = λ f e marks. few_other marks c.requires.ready.offer c.args.other c.requires.other (sym c.keeps_cross.ensures ∙ c.if-keeps_cross.false) c.put_second.ensures c.toggle_over.ensures.loads

pub returns-then-keeps_cross-clause-spends : goal.returns-then-keeps_cross-clause-spends
returns-then-keeps_cross-clause-spends g c = spends_on_none refl refl

pub returns-then-has-clause-spends : goal.returns-then-has-clause-spends
returns-then-has-clause-spends g c = spends_on_none refl refl

pub returns-clause-spends : goal.returns-clause-spends
returns-clause-spends g c = spends_other c.requires.ready.marks c.requires.ready.offer c.args.other c.requires.other (sym c.keeps_cross.ensures ∙ c.if-keeps_cross.false) (sym c.has.ensures ∙ c.if-has.false) c.put_second.ensures c.toggle_over.ensures.loads

pub returns-clause-marks : goal.returns-clause-marks
returns-clause-marks g c = over_later c.toggle_over.ensures.advances.more (over_second c.args.other.cross.0 c.requires.ready.marks c.put_second.ensures)
