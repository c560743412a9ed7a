use Rattle.std.proofs.Common.{◌≡◌, ◌<◌, ◌∙◌, true, Some, List, sym, subst, slice_get}
use Rattle.diag_known.proofs.Vocabulary.{Cross, pins_of, crosses_of, among, Walk, cross_numbers, Kept, IsMore, or_third}
use Rattle.diag_known.proofs.{Adding.all_numbers, Settling.if_ok_so, Settling.kept_cross}
use Rattle.diag_known.proofs.Hung.{laid_as, pulled_as, hung_within, hung_tied, hung_lost, hung_sound}
use Rattle.diag_known.proofs.hang.toggle_hung.Goals as goal

pub laid-requires-clause-ties : goal.laid-requires-clause-ties
laid-requires-clause-ties g c = all_numbers (λ x. x < crosses_of c.args.facts.now.shape) c.deref.result.now
    (λ x is. hung_within c.requires.offer c.requires.hung x (subst (λ (xs : List Cross). among (cross_numbers xs) x ≡ true) c.deref.ensures.value is))

pub pulled-requires : goal.pulled-requires
pulled-requires g c = λ j r here. subst (λ (k : Kept). r.pin < pins_of k.shape) (sym c.in_ok-config.ensures.same)
    ((c.requires.hung.walks.each j r (subst (λ (rs : List Walk). slice_get rs j ≡ Some r) c.deref-2.ensures.value here)).route.pin)

pub toggle_cross-answer-requires-clause-closed : goal.toggle_cross-answer-requires-clause-closed
toggle_cross-answer-requires-clause-closed g c =
    c.in_ok-config.ensures.laid.closed c.args.offer.now.foot.cross.0
    ∙ or_third (among c.args.way.now.crosses c.args.offer.now.foot.cross.0) (among c.args.way.now.crosses c.args.offer.now.foot.cross.0) (among (cross_numbers c.deref.result.now) c.args.offer.now.foot.cross.0)
    (subst (λ (xs : List Cross). among (cross_numbers xs) c.args.offer.now.foot.cross.0 ≡ true) (sym c.deref.ensures.value) (hung_tied c.requires.hung))

pub returns-clause-lost_each : goal.returns-clause-lost_each
returns-clause-lost_each g c =
    if_ok_so c.toggle_cross-answer.result c.toggle_cross-answer.ensures.passes_each (λ yes passes f e is_no.
    rw (c.give_back_drive.ensures, c.give_back.ensures) (hung_lost c.requires.known c.requires.offer c.requires.way c.requires.hung (laid_as c.deref.ensures.value c.in_ok-config.ensures.laid) (pulled_as c.deref-2.ensures.value c.in_ok-drive.ensures.pulled) (rw c.pin.ensures at (passes f e)) (subst (λ (k : Kept). IsMore k c.toggle_cross-answer.new.self) (c.in_ok-drive.ensures.same ∙ c.in_ok-config.ensures.same) c.toggle_cross-answer.ensures.advances.more) is_no))

pub returns-clause-faulty_each : goal.returns-clause-faulty_each
returns-clause-faulty_each g c =
    if_ok_so c.toggle_cross-answer.result c.toggle_cross-answer.ensures.passes_each (λ yes passes f e is_no. hung_sound c.requires.known c.requires.offer c.requires.way c.requires.hung (laid_as c.deref.ensures.value c.in_ok-config.ensures.laid) (pulled_as c.deref-2.ensures.value c.in_ok-drive.ensures.pulled) (rw c.pin.ensures at (passes f e)) is_no)

pub returns-clause-kept : goal.returns-clause-kept
returns-clause-kept g c =
    if_ok_so c.toggle_cross-answer.result c.toggle_cross-answer.ensures.gains (λ yes gains is. rw (c.give_back_drive.ensures, c.give_back.ensures) (kept_cross c.args.offer.now.foot.cross.0 (gains is)))
