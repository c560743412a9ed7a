use Rattle.std.proofs.Common.{◌≡◌, Some, length, refl, arith, slice_get}
use Rattle.std.proofs.lemmas.Result.{err_from_is_err_and}
use Rattle.diag_growth.proofs.Vocabulary.{slice_get_within, slice_get_read, few_none, few_then, spends_on_none, spends_on_then, lost_next}
use Rattle.diag_evidence.proofs.Keeping.{advances_itself, advances_then, trial_itself, trial_then}
use Rattle.diag_growth.proofs.{Explained.attached_later, Explained.held, Explained.rose_then, Explained.still_err, Learning.ready_later}
use Rattle.diag_growth.proofs.feet.try_others.Goals as goal

pub others-init : goal.others-init
others-init g c = record {
  advances = advances_itself _ c.args.facts.now;
  trial = trial_itself c.args.facts.now;
  marks = c.requires.ready.marks;
  spends = spends_on_none refl refl;
  marks_each = λ f e marks. marks;
  spends_each = λ f e marks. few_none refl refl;
  lost_each = λ f e marks j a less at. absurd (let no : ⊥ = omega (arith, less) in no);
}

pub try_other-requires-clause-attached : goal.try_other-requires-clause-attached
try_other-requires-clause-attached g c = attached_later c.others.invariant.advances c.requires.attached

pub try_other-requires-clause-ready : goal.try_other-requires-clause-ready
try_other-requires-clause-ready g c = ready_later c.others.invariant.advances.more c.requires.ready c.others.invariant.marks

pub try_other-requires-clause-own : goal.try_other-requires-clause-own
try_other-requires-clause-own g c = c.others.invariant.advances.more.crosses c.args.offer.now.foot.cross.0 c.requires.own

pub try_other-requires-clause-other : goal.try_other-requires-clause-other
try_other-requires-clause-other g c = record {
  place = c.others.k;
  here = slice_get_read c.args.offer.now.others.items (length c.args.offer.now.others.items) c.others.k c.index-other.result.now refl (omega arith) c.index-other.ensures;
}

pub returns-in_err-kept-clause-marks : goal.returns-in_err-kept-clause-marks
returns-in_err-kept-clause-marks g c = c.try_other.ensures.marks

pub returns-in_err-kept-clause-trial : goal.returns-in_err-kept-clause-trial
returns-in_err-kept-clause-trial g c = trial_then c.others.invariant.trial c.try_other.ensures.trial

pub returns-in_err-kept-clause-advances : goal.returns-in_err-kept-clause-advances
returns-in_err-kept-clause-advances g c = advances_then c.others.invariant.advances c.try_other.ensures.advances

pub returns-in_err-kept-clause-cause : goal.returns-in_err-kept-clause-cause
returns-in_err-kept-clause-cause g c =
    let p = err_from_is_err_and c.from_residual.result c.from_residual.ensures.1 in
    rw (p.1, p.2) (λ is. rose_then c.others.invariant.advances (c.in_err-kept.ensures.cause (still_err is)))

pub returns-in_err-kept-clause-spends_each : goal.returns-in_err-kept-clause-spends_each
returns-in_err-kept-clause-spends_each g c =
    let old = c.others.invariant in
    λ f e marks. let before = c.try_other.ensures.advances.narrows f e in
    few_then old.advances.more (held old.advances before) (old.spends_each f before marks) (c.try_other.ensures.spends_each f e (old.marks_each f before marks))

pub returns-in_err-kept-clause-spends : goal.returns-in_err-kept-clause-spends
returns-in_err-kept-clause-spends g c = spends_on_then c.others.invariant.advances.more c.others.invariant.spends c.try_other.ensures.spends

pub returns-then-kept-clause-some : goal.returns-then-kept-clause-some
returns-then-kept-clause-some g c = record {
  own = c.try_other.ensures.advances.more.crosses c.args.offer.now.foot.cross.0 (c.others.invariant.advances.more.crosses c.args.offer.now.foot.cross.0 c.requires.own);
  other = record {
    placed = record {
      place = c.others.k;
      here = slice_get_read c.args.offer.now.others.items (length c.args.offer.now.others.items) c.others.k c.index-other.result.now refl (omega arith) c.index-other.ensures;
    };
    kept = c.in_ok-kept.ensures.kept c.if-kept.true;
  };
}

pub returns-then-kept-clause-marks : goal.returns-then-kept-clause-marks
returns-then-kept-clause-marks g c = c.try_other.ensures.marks

pub returns-then-kept-clause-trial : goal.returns-then-kept-clause-trial
returns-then-kept-clause-trial g c = trial_then c.others.invariant.trial c.try_other.ensures.trial

pub returns-then-kept-clause-advances : goal.returns-then-kept-clause-advances
returns-then-kept-clause-advances g c = advances_then c.others.invariant.advances c.try_other.ensures.advances

pub returns-then-kept-clause-spends : goal.returns-then-kept-clause-spends
returns-then-kept-clause-spends g c = spends_on_then c.others.invariant.advances.more c.others.invariant.spends c.try_other.ensures.spends

pub returns-then-kept-clause-marks_each : goal.returns-then-kept-clause-marks_each
returns-then-kept-clause-marks_each g c = λ f e marks. c.in_ok-kept.ensures.marks_each f e (c.others.invariant.marks_each f (c.try_other.ensures.advances.narrows f e) marks)

pub returns-then-kept-clause-spends_each : goal.returns-then-kept-clause-spends_each
returns-then-kept-clause-spends_each g c =
    let old = c.others.invariant in
    λ f e marks. let before = c.try_other.ensures.advances.narrows f e in
    few_then old.advances.more (held old.advances before) (old.spends_each f before marks) (c.try_other.ensures.spends_each f e (old.marks_each f before marks))

pub returns-clause-marks : goal.returns-clause-marks
returns-clause-marks g c = c.others.invariant.marks

pub returns-clause-marks_each : goal.returns-clause-marks_each
returns-clause-marks_each g c = c.others.invariant.marks_each

pub returns-clause-spends : goal.returns-clause-spends
returns-clause-spends g c = c.others.invariant.spends

pub returns-clause-spends_each : goal.returns-clause-spends_each
returns-clause-spends_each g c = c.others.invariant.spends_each

pub returns-clause-trial : goal.returns-clause-trial
returns-clause-trial g c = c.others.invariant.trial

pub returns-clause-advances : goal.returns-clause-advances
returns-clause-advances g c = c.others.invariant.advances

pub returns-clause-none_each : goal.returns-clause-none_each
returns-clause-none_each g c = λ f e marks. record { lost = λ j a at. c.others.invariant.lost_each f e marks j a (let h = slice_get_within c.args.offer.now.others.items j a at in omega (arith, h)) at }

pub others-preserved : goal.others-preserved
others-preserved g c =
    let old = c.others.invariant in
    let other = c.index-other.result.now in
    let here : slice_get c.args.offer.now.others.items c.others.k ≡ Some other = slice_get_read c.args.offer.now.others.items (length c.args.offer.now.others.items) c.others.k other refl (omega arith) c.index-other.ensures in
    record {
      advances = advances_then old.advances c.try_other.ensures.advances;
      trial = trial_then old.trial c.try_other.ensures.trial;
      marks = c.try_other.ensures.marks;
      spends = spends_on_then old.advances.more old.spends c.try_other.ensures.spends;
      marks_each = λ f e marks. c.in_ok-kept.ensures.marks_each f e (old.marks_each f (c.try_other.ensures.advances.narrows f e) marks);
      spends_each = λ f e marks. let before = c.try_other.ensures.advances.narrows f e in
          few_then old.advances.more (held old.advances before) (old.spends_each f before marks) (c.try_other.ensures.spends_each f e (old.marks_each f before marks));
      lost_each = λ f e marks. let before = c.try_other.ensures.advances.narrows f e in
          lost_next c.args.offer.now.others.items c.args.offer.now.wire.0 c.args.offer.now.foot.cross.0 c.others.k other c.try_other.ensures.advances.more here
          (c.in_ok-kept.ensures.lost_each f e (old.marks_each f before marks) c.if-kept.false) (old.lost_each f before marks);
    }
