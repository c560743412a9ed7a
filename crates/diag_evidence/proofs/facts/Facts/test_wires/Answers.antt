use Rattle.std.proofs.lemmas.Result.{err_from_is_err_and}
use Rattle.diag_evidence.proofs.Vocabulary.{◌≡◌, ◌∙◌, Bool, List, Some, true, has_number, refl, subst, sym, Kept, HasLearnt}
use Rattle.diag_evidence.specs.Hangs.{UnclearIf, UnfitIf}
use Rattle.diag_evidence.proofs.Keeping.{advances_itself}
use Rattle.diag_evidence.proofs.Advancing.{advances_loads, failed_cause}
use Rattle.diag_evidence.proofs.Tried.{are_hung, shows_silent, shows_hung, tried_silent, tried_answered, stay_unfit, stay_unclear, newly_unfit, newly_unclear, unfit_hung, unclear_hung, tried_holds, learnt_advances}
use Rattle.diag_evidence.proofs.Marked.{unfit_none, unclear_none}
use Rattle.diag_evidence.proofs.facts.Facts.test_wires.Goals as goal

pub returns-then-not-branch-clause-tried_each : goal.returns-then-not-branch-clause-tried_each
returns-then-not-branch-clause-tried_each g c = λ f e.
    tried_silent _ c.args.forest.now c.args.hangs.now c.view.new.views c.in_ok-view.field-0 (c.in_ok-view.ensures.viewed_each f e) c.args.self.now c.view.new.self c.args.unfit.now c.args.unclear.now c.if-not-branch.true (c.in_ok-view.ensures.once c.if-not-branch.true) c.in_ok-view.ensures.same

pub returns-clause-tried_each : goal.returns-clause-tried_each
returns-clause-tried_each g c = λ f e.
    let learnt = subst (λ (k : Kept). HasLearnt c.args.forest.now c.args.hangs.now c.view.new.views k c.learn_hung.new.self c.args.unfit.now c.learn_hung.new.unfit c.args.unclear.now c.learn_hung.new.unclear) c.in_ok-view.ensures.same c.in_ok-learn_hung.ensures.learnt in
    tried_answered _ c.args.forest.now c.args.hangs.now c.view.new.views c.in_ok-view.field-0 (c.in_ok-view.ensures.viewed_each f e) c.args.self.now c.learn_hung.new.self c.if-not-branch.false learnt

pub returns-then-not-branch-clause-newly_each : goal.returns-then-not-branch-clause-newly_each
returns-then-not-branch-clause-newly_each g c = λ f e. unfit_none _ c.args.self.now c.args.forest.now c.args.unfit.now

pub returns-then-not-branch-clause-newly_too_each : goal.returns-then-not-branch-clause-newly_too_each
returns-then-not-branch-clause-newly_too_each g c = λ f e. unclear_none _ c.args.self.now c.args.unclear.now

pub returns-clause-newly_each : goal.returns-clause-newly_each
returns-clause-newly_each g c = λ f e.
    let learnt = subst (λ (k : Kept). HasLearnt c.args.forest.now c.args.hangs.now c.view.new.views k c.learn_hung.new.self c.args.unfit.now c.learn_hung.new.unfit c.args.unclear.now c.learn_hung.new.unclear) c.in_ok-view.ensures.same c.in_ok-learn_hung.ensures.learnt in
    newly_unfit _ c.args.forest.now c.args.hangs.now c.view.new.views c.in_ok-view.field-0 (c.in_ok-view.ensures.viewed_each f e) c.args.self.now c.learn_hung.new.self c.if-not-branch.false learnt c.shape-shape.ensures.forest c.requires.forest (are_hung c.requires.hangs)

pub returns-clause-newly_too_each : goal.returns-clause-newly_too_each
returns-clause-newly_too_each g c = λ f e.
    let learnt = subst (λ (k : Kept). HasLearnt c.args.forest.now c.args.hangs.now c.view.new.views k c.learn_hung.new.self c.args.unfit.now c.learn_hung.new.unfit c.args.unclear.now c.learn_hung.new.unclear) c.in_ok-view.ensures.same c.in_ok-learn_hung.ensures.learnt in
    newly_unclear _ c.args.forest.now c.args.hangs.now c.view.new.views c.in_ok-view.field-0 (c.in_ok-view.ensures.viewed_each f e) c.args.self.now c.learn_hung.new.self c.if-not-branch.false learnt c.shape-shape.ensures.forest c.requires.forest (are_hung c.requires.hangs)

pub returns-clause-unfit_each : goal.returns-clause-unfit_each
returns-clause-unfit_each g c = λ f e known all before.
    let learnt = subst (λ (k : Kept). HasLearnt c.args.forest.now c.args.hangs.now c.view.new.views k c.learn_hung.new.self c.args.unfit.now c.learn_hung.new.unfit c.args.unclear.now c.learn_hung.new.unclear) c.in_ok-view.ensures.same c.in_ok-learn_hung.ensures.learnt in
    unfit_hung _ c.args.forest.now c.args.hangs.now c.view.new.views c.in_ok-view.field-0 (c.in_ok-view.ensures.viewed_each f e) c.args.self.now c.learn_hung.new.self c.if-not-branch.false learnt c.shape-shape.ensures.forest c.requires.forest (are_hung c.requires.hangs) known all before

pub returns-clause-unclear_each : goal.returns-clause-unclear_each
returns-clause-unclear_each g c = λ f e before.
    let learnt = subst (λ (k : Kept). HasLearnt c.args.forest.now c.args.hangs.now c.view.new.views k c.learn_hung.new.self c.args.unfit.now c.learn_hung.new.unfit c.args.unclear.now c.learn_hung.new.unclear) c.in_ok-view.ensures.same c.in_ok-learn_hung.ensures.learnt in
    unclear_hung _ c.args.forest.now c.args.hangs.now c.view.new.views c.in_ok-view.field-0 (c.in_ok-view.ensures.viewed_each f e) c.args.self.now c.learn_hung.new.self c.if-not-branch.false learnt c.shape-shape.ensures.forest c.requires.forest (are_hung c.requires.hangs) before

pub returns-clause-stay : goal.returns-clause-stay
returns-clause-stay g c =
    let learnt = subst (λ (k : Kept). HasLearnt c.args.forest.now c.args.hangs.now c.view.new.views k c.learn_hung.new.self c.args.unfit.now c.learn_hung.new.unfit c.args.unclear.now c.learn_hung.new.unclear) c.in_ok-view.ensures.same c.in_ok-learn_hung.ensures.learnt in
    stay_unfit learnt

pub returns-clause-stay_too : goal.returns-clause-stay_too
returns-clause-stay_too g c =
    let learnt = subst (λ (k : Kept). HasLearnt c.args.forest.now c.args.hangs.now c.view.new.views k c.learn_hung.new.self c.args.unfit.now c.learn_hung.new.unfit c.args.unclear.now c.learn_hung.new.unclear) c.in_ok-view.ensures.same c.in_ok-learn_hung.ensures.learnt in
    stay_unclear learnt

pub returns-clause-advances : goal.returns-clause-advances
returns-clause-advances g c =
    let learnt = subst (λ (k : Kept). HasLearnt c.args.forest.now c.args.hangs.now c.view.new.views k c.learn_hung.new.self c.args.unfit.now c.learn_hung.new.unfit c.args.unclear.now c.learn_hung.new.unclear) c.in_ok-view.ensures.same c.in_ok-learn_hung.ensures.learnt in
    learnt_advances learnt c.in_ok-view.ensures.loads.machine c.in_ok-view.ensures.loads.later c.in_ok-view.ensures.loads.counted c.in_ok-view.ensures.few c.in_ok-view.ensures.loads.narrows c.in_ok-view.ensures.loads.tells
    (λ f e. tried_holds _ c.args.forest.now c.args.hangs.now c.view.new.views c.in_ok-view.field-0 (c.in_ok-view.ensures.viewed_each f e) c.args.self.now c.learn_hung.new.self c.if-not-branch.false learnt c.shape-shape.ensures.forest c.requires.forest (are_hung c.requires.hangs) c.requires.hangs f refl)

pub returns-then-not-branch-clause-logged : goal.returns-then-not-branch-clause-logged
returns-then-not-branch-clause-logged g c =
    shows_silent c.args.forest.now c.args.hangs.now c.view.new.views c.in_ok-view.field-0 c.in_ok-view.ensures.logged c.args.self.now c.view.new.self c.args.unfit.now c.args.unclear.now c.if-not-branch.true c.in_ok-view.ensures.same

pub returns-clause-logged : goal.returns-clause-logged
returns-clause-logged g c =
    let learnt = subst (λ (k : Kept). HasLearnt c.args.forest.now c.args.hangs.now c.view.new.views k c.learn_hung.new.self c.args.unfit.now c.learn_hung.new.unfit c.args.unclear.now c.learn_hung.new.unclear) c.in_ok-view.ensures.same c.in_ok-learn_hung.ensures.learnt in
    shows_hung c.args.forest.now c.args.hangs.now c.view.new.views c.in_ok-view.field-0 c.in_ok-view.ensures.logged c.args.self.now c.learn_hung.new.self c.if-not-branch.false learnt

pub returns-in_err-plan-clause-unfit_each : goal.returns-in_err-plan-clause-unfit_each
returns-in_err-plan-clause-unfit_each g c = λ f e known all before. before

pub returns-in_err-plan-clause-unclear_each : goal.returns-in_err-plan-clause-unclear_each
returns-in_err-plan-clause-unclear_each g c = λ f e before. before

pub returns-in_err-plan-clause-advances : goal.returns-in_err-plan-clause-advances
returns-in_err-plan-clause-advances g c = advances_itself _ c.args.self.now

pub returns-in_err-views-clause-unfit_each : goal.returns-in_err-views-clause-unfit_each
returns-in_err-views-clause-unfit_each g c = λ f e known all before. before

pub returns-in_err-views-clause-unclear_each : goal.returns-in_err-views-clause-unclear_each
returns-in_err-views-clause-unclear_each g c = λ f e before. before

pub returns-in_err-views-clause-advances : goal.returns-in_err-views-clause-advances
returns-in_err-views-clause-advances g c = advances_itself _ c.args.self.now

pub returns-in_err-view-clause-advances : goal.returns-in_err-view-clause-advances
returns-in_err-view-clause-advances g c = advances_loads c.view.ensures.same c.view.ensures.loads c.view.ensures.few

pub returns-in_err-view-clause-unfit_each : goal.returns-in_err-view-clause-unfit_each
returns-in_err-view-clause-unfit_each g c = λ f e known all before. subst (λ (k : Kept). UnfitIf (Some f) k known c.args.unfit.now) (sym c.view.ensures.same) before

pub returns-in_err-view-clause-unclear_each : goal.returns-in_err-view-clause-unclear_each
returns-in_err-view-clause-unclear_each g c = λ f e before. subst (λ (k : Kept). UnclearIf (Some f) k c.args.unclear.now) (sym c.view.ensures.same) before

pub returns-in_err-view-clause-cause : goal.returns-in_err-view-clause-cause
returns-in_err-view-clause-cause g c =
    let p = err_from_is_err_and c.from_residual-in_err-view.result c.from_residual-in_err-view.ensures.1 in
    rw (p.1, p.2) (failed_cause c.in_err-view.ensures.loads)

pub returns-then-not-branch-clause-advances : goal.returns-then-not-branch-clause-advances
returns-then-not-branch-clause-advances g c = advances_loads c.view.ensures.same c.view.ensures.loads c.view.ensures.few

pub returns-then-not-branch-clause-unfit_each : goal.returns-then-not-branch-clause-unfit_each
returns-then-not-branch-clause-unfit_each g c = λ f e known all before. subst (λ (k : Kept). UnfitIf (Some f) k known c.args.unfit.now) (sym c.view.ensures.same) before

pub returns-then-not-branch-clause-unclear_each : goal.returns-then-not-branch-clause-unclear_each
returns-then-not-branch-clause-unclear_each g c = λ f e before. subst (λ (k : Kept). UnclearIf (Some f) k c.args.unclear.now) (sym c.view.ensures.same) before

pub returns-in_err-learn_hung-clause-advances : goal.returns-in_err-learn_hung-clause-advances
returns-in_err-learn_hung-clause-advances g c = advances_loads (c.in_err-learn_hung.ensures.refused ∙ c.view.ensures.same) c.view.ensures.loads c.view.ensures.few

pub returns-in_err-learn_hung-clause-unfit_each : goal.returns-in_err-learn_hung-clause-unfit_each
returns-in_err-learn_hung-clause-unfit_each g c = λ f e known all before.
    subst (λ (k : Kept). UnfitIf (Some f) k known c.learn_hung.new.unfit) (sym (c.in_err-learn_hung.ensures.refused ∙ c.view.ensures.same)) (subst (λ (m : List Bool). UnfitIf (Some f) c.args.self.now known m) (sym c.in_err-learn_hung.ensures.unmarked) before)

pub returns-in_err-learn_hung-clause-unclear_each : goal.returns-in_err-learn_hung-clause-unclear_each
returns-in_err-learn_hung-clause-unclear_each g c = λ f e before.
    subst (λ (k : Kept). UnclearIf (Some f) k c.learn_hung.new.unclear) (sym (c.in_err-learn_hung.ensures.refused ∙ c.view.ensures.same)) (subst (λ (m : List Bool). UnclearIf (Some f) c.args.self.now m) (sym c.in_err-learn_hung.ensures.unmarked_too) before)

pub returns-in_err-learn_hung-clause-stay : goal.returns-in_err-learn_hung-clause-stay
returns-in_err-learn_hung-clause-stay g c = λ w on. subst (λ (m : List Bool). has_number m w ≡ true) (sym c.in_err-learn_hung.ensures.unmarked) on

pub returns-in_err-learn_hung-clause-stay_too : goal.returns-in_err-learn_hung-clause-stay_too
returns-in_err-learn_hung-clause-stay_too g c = λ w on. subst (λ (m : List Bool). has_number m w ≡ true) (sym c.in_err-learn_hung.ensures.unmarked_too) on

pub returns-in_err-plan-clause-stay : goal.returns-in_err-plan-clause-stay
returns-in_err-plan-clause-stay g c = λ w on. on

pub returns-in_err-plan-clause-stay_too : goal.returns-in_err-plan-clause-stay_too
returns-in_err-plan-clause-stay_too g c = λ w on. on

pub returns-in_err-views-clause-stay : goal.returns-in_err-views-clause-stay
returns-in_err-views-clause-stay g c = λ w on. on

pub returns-in_err-views-clause-stay_too : goal.returns-in_err-views-clause-stay_too
returns-in_err-views-clause-stay_too g c = λ w on. on

pub returns-in_err-view-clause-stay : goal.returns-in_err-view-clause-stay
returns-in_err-view-clause-stay g c = λ w on. on

pub returns-in_err-view-clause-stay_too : goal.returns-in_err-view-clause-stay_too
returns-in_err-view-clause-stay_too g c = λ w on. on

pub returns-then-not-branch-clause-stay : goal.returns-then-not-branch-clause-stay
returns-then-not-branch-clause-stay g c = λ w on. on

pub returns-then-not-branch-clause-stay_too : goal.returns-then-not-branch-clause-stay_too
returns-then-not-branch-clause-stay_too g c = λ w on. on
