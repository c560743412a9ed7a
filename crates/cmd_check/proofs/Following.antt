-- How the steps of `check` follow one another, over plain states.
use Rattle.cmd_check.proofs.Vocabulary.{◌≡◌, ℕ, Bool, IsTrue, List, [], refl, subst, Result, Ok, StoreState, Faults, ImageValue, RigState}
use Rattle.cmd_check.proofs.Vocabulary.{Explains, ForEach, Outside, Took, Follows, kept-gives, tests_now, image_tried, image_tested}
use Rattle.diag_check.specs.Soundly.{FewIf, IsUnharmed, IsSoundUnder, SoundIf, StandsBySurroundings, TakesForParts, YesIf}
use Rattle.cmd_steps.specs.declared.refusal.Stop.{Stop}
use Rattle.cmd_steps.proofs.Logs.{narrows_by}

-- ---- what is said of each set that explains what was read

pub sound-under : (new : RigState) {i : ImageValue} {yes : Bool} → ForEach new (λ told. SoundIf told i yes) → (f : Faults) → Explains f new → IsTrue yes → IsSoundUnder f i
sound-under new each f e = (each f e).at f refl

pub whole-under : (new : RigState) {i : ImageValue} {yes : Bool} → ForEach new (λ told. YesIf told i yes) → (f : Faults) → Explains f new → IsUnharmed f i → IsTrue yes
whole-under new each f e = (each f e).at f refl

pub ways-under : (new : RigState) {i : ImageValue} {yes : Bool} → ForEach new (λ told. YesIf told i yes) → (f : Faults) → Explains f new → StandsBySurroundings f i → IsTrue yes
ways-under new each f e = (each f e).ways f refl

pub fewer-under : (new : RigState) {i : ImageValue} {before after : ℕ} → ForEach new (λ told. FewIf told i before after) → (f : Faults) → Explains f new → IsUnharmed f i → TakesForParts i before after
fewer-under new each f e = (each f e).at f refl

-- ---- the steps

module _ (files : List (List ℕ)) (begun : StoreState) (i : ImageValue) (result : Result (Unit {0}) Stop) (old new : Outside) where
  -- the image is tested where so many loads were made
  abbrev tested-from : ℕ → Type 0
  tested-from n = Follows ⊥ [] (new.rig.machine ≡ old.rig.machine) (image_tested files begun new.store new.rig n i) result old new

  pub tested-since : (before : ℕ) → old.rig.loads ≡ before → tested-from old.rig.loads → tested-from before
  tested-since before loads is = subst (λ n. tested-from n) loads is

  -- the test stays what it is while the machine stays, and what follows is by what was found
  pub tested-then : (mid : Outside) (found sound : Bool) → Took [] (tests_now i old.rig mid.rig) (Ok found) old mid →
      mid.rig.machine ≡ old.rig.machine → found ≡ sound → Follows ⊥ [] (new.rig.machine ≡ mid.rig.machine)
      (image_tried files begun new.store new.rig i (record { sound = sound; loads = mid.rig.loads })) result mid new →
      tested-from old.rig.loads
  tested-then mid found sound took same is follows =
      let narrows = narrows_by follows.later.log follows.machines in
      kept-gives _ _ _ (tests_now i old.rig mid.rig) found (record { sound = found; loads = mid.rig.loads }) result old mid new took
      (λ t. record {
        sound = λ f e. t.sound f (narrows f e);
        whole = λ f e. t.whole f (narrows f e);
        ways = λ f e. t.ways f (narrows f e);
        few = t.few;
        fewer = λ f e. t.fewer f (narrows f e);
      }) same (rw is follows)
