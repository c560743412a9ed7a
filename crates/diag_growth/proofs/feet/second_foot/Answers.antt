use Rattle.diag_growth.proofs.Vocabulary.{◌≡◌, List, Some, subst, slice_get, Support, few_then, spends_on_then, if_ok_so, on_ok_so}
use Rattle.diag_growth.proofs.{Explained.held, Learning.ready_later}
use Rattle.diag_growth.proofs.feet.second_foot.Goals as goal

pub try_others-requires-clause-ready : goal.try_others-requires-clause-ready
try_others-requires-clause-ready g c = ready_later c.toggle_first.ensures.advances.more c.requires.ready c.toggle_first.ensures.marks

pub try_others-requires-clause-own : goal.try_others-requires-clause-own
try_others-requires-clause-own g c = c.in_ok-kept.ensures.kept c.if-not-kept.false

pub returns-clause-none_each : goal.returns-clause-none_each
returns-clause-none_each g c = if_ok_so c.try_others.result c.try_others.ensures.none_each
    (λ found none f e marks. none f e (c.in_ok-kept.ensures.marks_each f (c.try_others.ensures.advances.narrows f e) marks))

pub returns-clause-marks_each : goal.returns-clause-marks_each
returns-clause-marks_each g c = on_ok_so c.try_others.result c.try_others.ensures.marks_each
    (λ each f e marks. each f e (c.in_ok-kept.ensures.marks_each f (c.try_others.ensures.advances.narrows f e) marks))

pub returns-clause-spends : goal.returns-clause-spends
returns-clause-spends g c = spends_on_then c.toggle_first.ensures.advances.more c.toggle_first.ensures.spends c.try_others.ensures.spends

pub returns-clause-spends_each : goal.returns-clause-spends_each
returns-clause-spends_each g c = λ f e marks. let before = c.try_others.ensures.advances.narrows f e in
    few_then c.toggle_first.ensures.advances.more (held c.toggle_first.ensures.advances before) (c.toggle_first.ensures.spends_each f before marks)
    (c.try_others.ensures.spends_each f e (c.in_ok-kept.ensures.marks_each f before marks))

pub kept_link-requires : goal.kept_link-requires
kept_link-requires g c = λ j a here. (c.requires.ready.offer.others j a (subst (λ (links : List Support). slice_get links j ≡ Some a) c.deref.ensures.value here)).within

pub returns-then-not-kept-clause-none_each : goal.returns-then-not-kept-clause-none_each
returns-then-not-kept-clause-none_each g c = λ f e marks. c.in_ok-kept.ensures.lost_each f e c.if-not-kept.true
