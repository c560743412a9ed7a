-- What a test of hangs leaves.
use Rattle.std.proofs.Common.{◌≡◌, ◌≤◌, ◌+◌, ◌⊎◌, inl, inr, ℕ, Bool, true, false, Some, Option, List, [], ◌∷◌, All, refl, subst, ◌∙◌, map}
use Rattle.diag_evidence.proofs.Vocabulary.{All-map, Faults, Pins, RigState, Explains, Narrows, Tells, log_of, WireTest}
use Rattle.diag_evidence.specs.declared.hangs.Views.{Views}
use Rattle.diag_evidence.specs.Vocabulary.{Kept, HoldsFor, IsMore, Gains, Advances, FewCycles, Trees, IsForest, KnowsForest, Foot, IsFoot, IsLook, LogsLook, LogsThree, LogsViews, ShowsTried, all_feet, closes, AreHangs, AreAllOf, MarksUnfit, MarksUnclear, UnfitIf, UnclearIf, StayMarked, HasTried, silent, answered, over_of, turned, overs, others, shown, seen_on, joined_by, HasViewed, HasLearnt}
use Rattle.diag_evidence.proofs.Keeping.{more_then}
use Rattle.diag_evidence.proofs.Logging.{logged_then}
use Rattle.diag_evidence.proofs.KeptLemmas.{more_by_gain, held_before}
use Rattle.diag_evidence.proofs.Hanging.{AreHung, hung_turned, overs_feet, overs_once}
use Rattle.diag_evidence.proofs.Joining.{hung_holds}
use Rattle.diag_evidence.proofs.Marked.{still_unfit, still_unclear, unfit_new, unclear_new, unfit_then, unclear_then, unfit_all, unclear_all, unfit_later, unclear_later}

-- a look over these feet, under another name
pub look_over : {told : Option Faults} (trees : Trees) {feet those : List Foot} {rows : List Pins} → feet ≡ those → IsLook told trees.shape (closes trees feet) rows → IsLook told trees.shape (closes trees those) rows
look_over {told} trees {rows = rows} same look = subst (λ (fs : List Foot). IsLook told trees.shape (closes trees fs) rows) same look

-- .. and in the log
pub look_over_logged : (trees : Trees) {feet those : List Foot} {rows : List Pins} {s t : RigState} → feet ≡ those → LogsLook trees.shape (closes trees feet) rows s t → LogsLook trees.shape (closes trees those) rows s t
look_over_logged trees {rows = rows} {s = s} {t = t} same logs = subst (λ (fs : List Foot). LogsLook trees.shape (closes trees fs) rows s t) same logs

-- three looks, one after the other
pub three_looks : (trees : Trees) (hs : List WireTest) {rows a b : List Pins} {s t u v : RigState} → LogsLook trees.shape (closes trees (all_feet hs)) rows s t → LogsLook trees.shape (closes trees (others hs)) a t u
    → LogsLook trees.shape (closes trees (overs hs)) b u v → LogsThree trees hs rows a b s v
three_looks trees hs {s = s} p q r = record {
  all = p.session;
  all_look = p.look;
  over = q.session;
  over_look = q.look;
  other = r.session;
  other_look = r.look;
  logged = logged_then (log_of s) (p.session ∷ q.session ∷ []) (r.session ∷ []) (logged_then (log_of s) (p.session ∷ []) (q.session ∷ []) p.logged q.logged) r.logged;
}

pub are_hung : {trees : Trees} {hs : List WireTest} → AreHangs trees hs → AreHung trees hs
are_hung h = record { over = h.over; other = h.other; wires = h.wires }

-- what is learnt unmarks nothing, and what was kept stays so
module _ {trees : Trees} {hs : List WireTest} {views : Views} {k l : Kept} {was is were are : List Bool} (learnt : HasLearnt trees hs views k l was is were are) where
  pub stay_unfit : StayMarked was is
  stay_unfit w on = still_unfit learnt.second_marks w (still_unfit learnt.first_marks w on)

  pub stay_unclear : StayMarked were are
  stay_unclear w on = still_unclear learnt.second_marks w (still_unclear learnt.first_marks w on)

  pub learnt_more : IsMore k l
  learnt_more = more_then (more_by_gain _ k learnt.mid learnt.first) (more_then (more_by_gain _ learnt.mid learnt.near learnt.second) (more_by_gain _ learnt.near l learnt.third))

  -- what is kept then is true only of faults of which it was true before
  pub learnt_before : (f : Faults) → HoldsFor l f → HoldsFor k f
  learnt_before f h = held_before _ k learnt.mid f learnt.first (held_before _ learnt.mid learnt.near f learnt.second (held_before _ learnt.near l f learnt.third h))

  pub learnt_advances : {old new : RigState} → new.machine ≡ old.machine → old.failures ≤ new.failures → old.loads ≤ new.loads → FewCycles old new → Narrows old new → Tells old new
      → ((f : Faults) → Explains f new → HoldsFor k f → HoldsFor l f) → Advances old new k l
  learnt_advances machine later counted few narrows tells explained = record {
    machine = machine;
    later = later;
    counted = counted;
    few = few;
    more = learnt_more;
    narrows = narrows;
    tells = tells;
    explained = explained;
  }

-- what the log shows of the test
module _ (trees : Trees) (hs : List WireTest) {s t : RigState} (views : Views) (yes : Bool) (logs : LogsViews trees hs s t views yes) (k l : Kept) where
  pub shows_silent : (was were : List Bool) → yes ≡ false → l ≡ k → ShowsTried trees hs s t k l was was were were
  shows_silent was were is_no same = inl (record {
    rows = views.all.rows;
    look = logs.once is_no;
    unanswered = logs.answers ∙ is_no;
    same = same;
    unmarked = refl;
    unmarked_too = refl;
  })

  pub shows_hung : {was is were are : List Bool} → yes ≡ true → HasLearnt trees hs views k l was is were are → ShowsTried trees hs s t k l was is were are
  shows_hung is_yes learnt = inr (record {
    rows = views.all.rows;
    without_over = views.without_over.rows;
    without_other = views.without_other.rows;
    looks = logs.thrice is_yes;
    answers = logs.answers ∙ is_yes;
    mid = learnt.mid;
    first = learnt.first;
    near = learnt.near;
    second = learnt.second;
    third = learnt.third;
    some = learnt.some;
    few = learnt.few;
    first_marks = learnt.first_marks;
    second_marks = learnt.second_marks;
  })

module _ (told : Option Faults) (trees : Trees) (hs : List WireTest) (views : Views) (yes : Bool) (viewed : HasViewed told trees hs views yes) (k l : Kept) where
  pub tried_silent : {before after : ℕ} (was were : List Bool) → yes ≡ false → after ≤ before + 1 → l ≡ k → HasTried told trees hs before after k l was was were were
  tried_silent was were e once same = silent views.all.rows viewed.all (viewed.answers ∙ e) once same refl refl

  module _ (is_yes : yes ≡ true) {was is were are : List Bool} (learnt : HasLearnt trees hs views k l was is were are) where
    pub tried_answered : {before after : ℕ} → HasTried told trees hs before after k l was is were are
    tried_answered = answered views.all.rows viewed.all (viewed.answers ∙ is_yes) (record {
      without_over = views.without_over.rows;
      over_look = viewed.without_over is_yes;
      without_other = views.without_other.rows;
      other_look = viewed.without_other is_yes;
      mid = learnt.mid;
      first = learnt.first;
      near = learnt.near;
      second = learnt.second;
      third = learnt.third;
      some = learnt.some;
      few = learnt.few;
      first_marks = learnt.first_marks;
      second_marks = learnt.second_marks;
    })

    module _ (forest : IsForest trees) (knows : KnowsForest k trees) (hung : AreHung trees hs) where
      other_feet : All (IsFoot trees) (others hs)
      other_feet = overs_feet (map turned hs) (hung_turned hung).over

      pub newly_unfit : MarksUnfit told k trees was is
      newly_unfit = unfit_then told k trees was learnt.some is
          (unfit_new told k trees (others hs) views.without_over.rows forest knows other_feet (overs_once (hung_turned hung)) (viewed.without_over is_yes) learnt.first_marks)
          (unfit_new told k trees (overs hs) views.without_other.rows forest knows (overs_feet hs hung.over) (overs_once hung) (viewed.without_other is_yes) learnt.second_marks)

      pub newly_unclear : MarksUnclear told k were are
      newly_unclear = unclear_then told k were learnt.few are
          (unclear_new told k trees (others hs) views.without_over.rows forest knows other_feet (overs_once (hung_turned hung)) (viewed.without_over is_yes) learnt.first_marks)
          (unclear_new told k trees (overs hs) views.without_other.rows forest knows (overs_feet hs hung.over) (overs_once hung) (viewed.without_other is_yes) learnt.second_marks)

      pub unfit_hung : (known : ℕ → Bool) → AreAllOf trees known → UnfitIf told k known was → UnfitIf told l known is
      unfit_hung known all before = unfit_later told k l known is (learnt_more learnt) (learnt_before learnt) (unfit_all told k trees was is newly_unfit known all before)

      pub unclear_hung : UnclearIf told k were → UnclearIf told l are
      unclear_hung before = unclear_later told k l are (learnt_more learnt) (learnt_before learnt) (unclear_all told k were are newly_unclear before)

      pub tried_holds : AreHangs trees hs → (f : Faults) → told ≡ Some f → HoldsFor k f → HoldsFor l f
      tried_holds hangs = hung_holds k trees hs views.all.rows views.without_over.rows views.without_other.rows forest knows.keeps hangs hung viewed.all (viewed.without_over is_yes) (viewed.without_other is_yes)
          learnt.mid learnt.near l learnt.first learnt.second learnt.third
