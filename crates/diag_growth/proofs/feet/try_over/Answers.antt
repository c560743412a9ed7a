use Rattle.diag_growth.proofs.Vocabulary.{◌∙◌, refl, sym, few_none, few_own, spends_on_none, spends_own, lost_all}
use Rattle.diag_known.proofs.Settling.{marks_offered, lost_faulty, over_later, over_offered}
use Rattle.diag_growth.proofs.feet.try_over.Goals as goal

pub returns-then-keeps_cross-clause-some : goal.returns-then-keeps_cross-clause-some
returns-then-keeps_cross-clause-some g c = record { own = sym c.keeps_cross.ensures ∙ c.if-keeps_cross.true; other = c.requires.over }

pub returns-then-keeps_cross-clause-spends_each : goal.returns-then-keeps_cross-clause-spends_each
returns-then-keeps_cross-clause-spends_each g c = λ f e marks. few_none refl refl

pub toggle_over-requires-clause-over : goal.toggle_over-requires-clause-over
toggle_over-requires-clause-over g c = c.requires.ready.offer.others c.requires.over.placed.place c.args.over c.requires.over.placed.here

pub toggle_over-requires-clause-differ : goal.toggle_over-requires-clause-differ
toggle_over-requires-clause-differ g c = λ e. c.requires.ready.offer.differ c.requires.over.placed.place c.args.over c.requires.over.placed.here (sym e)

pub returns-in_err-kept-clause-spends_each : goal.returns-in_err-kept-clause-spends_each
returns-in_err-kept-clause-spends_each g c = λ f e marks. few_own marks c.requires.ready.offer (sym c.keeps_cross.ensures ∙ c.if-keeps_cross.false) c.offer.ensures c.toggle_over.ensures.loads

pub returns-then-kept-clause-some : goal.returns-then-kept-clause-some
returns-then-kept-clause-some g c = record {
  own = c.in_ok-kept.ensures.kept c.if-kept.true;
  other = record { placed = c.requires.over.placed; kept = c.toggle_over.ensures.advances.more.crosses c.args.over.cross.0 c.requires.over.kept };
}

pub returns-then-kept-clause-marks_each : goal.returns-then-kept-clause-marks_each
returns-then-kept-clause-marks_each g c = λ f e marks. marks_offered c.args.offer.now.foot.cross.0 marks c.toggle_over.ensures.advances.more (λ h is none holds. c.in_ok-kept.ensures.kept c.if-kept.true) c.requires.ready.offer.foot.within c.offer.ensures

pub returns-then-kept-clause-spends_each : goal.returns-then-kept-clause-spends_each
returns-then-kept-clause-spends_each g c = λ f e marks. few_own marks c.requires.ready.offer (sym c.keeps_cross.ensures ∙ c.if-keeps_cross.false) c.offer.ensures c.toggle_over.ensures.loads

pub returns-clause-none_each : goal.returns-clause-none_each
returns-clause-none_each g c = λ f e marks. lost_all (c.in_ok-kept.ensures.lost_each f e c.if-kept.false)

pub returns-clause-marks_each : goal.returns-clause-marks_each
returns-clause-marks_each g c = λ f e marks. marks_offered c.args.offer.now.foot.cross.0 marks c.toggle_over.ensures.advances.more
    (λ h is none holds. absurd ((lost_faulty c.requires.ready.offer.new (c.in_ok-kept.ensures.lost_each f e c.if-kept.false)).at h is none holds)) c.requires.ready.offer.foot.within c.offer.ensures

pub returns-clause-spends_each : goal.returns-clause-spends_each
returns-clause-spends_each g c = λ f e marks. few_own marks c.requires.ready.offer (sym c.keeps_cross.ensures ∙ c.if-keeps_cross.false) c.offer.ensures c.toggle_over.ensures.loads

pub returns-in_err-kept-clause-marks : goal.returns-in_err-kept-clause-marks
returns-in_err-kept-clause-marks g c = over_later c.toggle_over.ensures.advances.more (over_offered c.args.offer.now.foot.cross.0 c.requires.ready.marks c.offer.ensures)

pub returns-in_err-kept-clause-spends : goal.returns-in_err-kept-clause-spends
returns-in_err-kept-clause-spends g c = spends_own c.requires.ready.marks c.requires.ready.offer (sym c.keeps_cross.ensures ∙ c.if-keeps_cross.false) c.requires.first c.offer.ensures c.toggle_over.ensures.loads

pub returns-then-kept-clause-marks : goal.returns-then-kept-clause-marks
returns-then-kept-clause-marks g c = over_later c.toggle_over.ensures.advances.more (over_offered c.args.offer.now.foot.cross.0 c.requires.ready.marks c.offer.ensures)

pub returns-then-kept-clause-spends : goal.returns-then-kept-clause-spends
returns-then-kept-clause-spends g c = spends_own c.requires.ready.marks c.requires.ready.offer (sym c.keeps_cross.ensures ∙ c.if-keeps_cross.false) c.requires.first c.offer.ensures c.toggle_over.ensures.loads

pub returns-clause-marks : goal.returns-clause-marks
returns-clause-marks g c = over_later c.toggle_over.ensures.advances.more (over_offered c.args.offer.now.foot.cross.0 c.requires.ready.marks c.offer.ensures)

pub returns-clause-spends : goal.returns-clause-spends
returns-clause-spends g c = spends_own c.requires.ready.marks c.requires.ready.offer (sym c.keeps_cross.ensures ∙ c.if-keeps_cross.false) c.requires.first c.offer.ensures c.toggle_over.ensures.loads

pub returns-then-keeps_cross-clause-spends : goal.returns-then-keeps_cross-clause-spends
returns-then-keeps_cross-clause-spends g c = spends_on_none refl refl
