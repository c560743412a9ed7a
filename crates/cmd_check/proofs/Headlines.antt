-- What a `check` that is done has done, from its course.
use Rattle.std.proofs.Common.{◌≡◌, ◌∙◌, ℕ, Bool, true, false, List, [], ◌∷◌, ◌++◌, Some, refl, sym, ap, subst, inl, inr}
use Rattle.cmd_check.proofs.Vocabulary.{false≢true, Wrote, Shape, Faults, Covers, IsTight, ImageValue, Explains, Outside, around, ends}
use Rattle.cmd_check.proofs.Vocabulary.{reads_machine, reads_image, Tried, IsTried, Answer, Sound}
use Rattle.diag_check.specs.Soundly.{IsUnharmed, StandsBySurroundings, TakesForParts, TakesForWays}
use Rattle.cmd_steps.proofs.QuietJobs.{line-ended}
use Rattle.cmd_check.specs.Answers.{IsTrueUnder, answer_line}
use Rattle.cmd_check.specs.Check.{StandsLoaded, answer_written, machine_listed, by_test, check_course}
use Rattle.cmd_check.specs.Headline.{IsFound, tested, listed, IsChecked}

module _ (machine name image : List ℕ) (old new : Outside) (text : List ℕ)
    (asked : new.store.asked ≡ old.store.asked ++ machine ∷ image ∷ []) (wrote : Wrote old.sink.written new.sink.written text)
    (m : Shape) (read : (reads_machine (old.store.contents machine)).gives m)
    (attached : new.rig.machine.attached ≡ Some (record { shape = m; name = name })) (i : ImageValue)
    (is : (reads_image (old.store.contents image) m).gives i) where
  -- the line of an answer was written
  answered : (loads : ℕ) (a : Answer) → answer_written (image ∷ machine ∷ []) old.store new.store new.rig loads i a text ends →
      (new.rig.loads ≡ loads → IsFound i old.rig.loads new.rig a) → ((f : Faults) → Explains f new.rig → IsTrueUnder f i a) →
      ((f : Faults) → Explains f new.rig → IsUnharmed f i → (a ≡ Sound) × TakesForParts i old.rig.loads loads) →
      ((f : Faults) → Explains f new.rig → StandsBySurroundings f i → (a ≡ Sound) × TakesForWays i old.rig.loads loads) →
      IsChecked machine name image old new
  answered loads a at found right whole ways =
      let here = StandsLoaded (image ∷ machine ∷ []) old.store new.store new.rig loads in
      let line = line-ended (answer_line i.config.shape a) here text at in
      record {
        shape = m;
        given = i;
        answer = a;
        asked = asked;
        machine_is = read;
        attached = attached;
        image_of = is.0;
        is_image = is.1;
        image_is = is.2;
        found = found line.1.1;
        written = subst (λ t. Wrote old.sink.written new.sink.written t) (line.0 ∙ ap (λ (s : Shape). answer_line s a) is.0) wrote;
        right = right;
        whole = λ f e unharmed. let all = whole f e unharmed in (all.0, rw line.1.1 all.1);
        ways = λ f e stands. let all = ways f e stands in (all.0, rw line.1.1 all.1);
      }

  -- by the test, or by a list: a machine whose faults leave the image unharmed isn't listed
  by-test : (t : Tried) → IsTried i old.rig.loads new.rig t → (sound : Bool) → t.sound ≡ sound →
      by_test sound (answer_written (image ∷ machine ∷ []) old.store new.store new.rig t.loads i Sound)
      (machine_listed (image ∷ machine ∷ []) old.store new.store new.rig i t) text ends → IsChecked machine name image old new
  by-test t tried true found at =
      answered t.loads Sound at (λ loads. tested t tried found refl loads) (λ f e. tried.sound f e found)
      (λ f e unharmed. (refl, tried.fewer f e unharmed)) (λ f e stands. (refl, tried.few))
  by-test t tried false found (inl h) = absurd h.1
  by-test t tried false found (inr (l, list, inl h)) = absurd h.1
  by-test t tried false found (inr (l, list, inr (a, said, at))) =
      answered l.loads a at (λ loads. listed t l tried found list said.by_list loads)
      (λ f e. subst (λ (s : Shape). Covers s l.list.list f → IsTight s l.list.list f → IsTrueUnder f i a) list.shape (said.right f)
      (list.right.covers f e) (list.right.tight f e))
      (λ f e unharmed. absurd (false≢true (sym found ∙ tried.whole f e unharmed)))
      (λ f e stands. absurd (false≢true (sym found ∙ tried.ways f e stands)))

module _ (machine name image : List ℕ) (old new : Outside) where
  pub checked : (text : List ℕ) → new.store.asked ≡ old.store.asked ++ machine ∷ image ∷ [] → Wrote old.sink.written new.sink.written text → check_course machine name image (around old) (around new) text ends → IsChecked machine name image old new
  checked text asked wrote (inl h) = absurd h.1
  checked text asked wrote (inr (m, read, inl h)) = absurd h.1
  checked text asked wrote (inr (m, read, inr (u, attached, inl h))) = absurd h.1
  checked text asked wrote (inr (m, read, inr (u, attached, inr (i, is, inl h)))) = absurd h.1
  checked text asked wrote (inr (m, read, inr (u, attached, inr (i, is, inr (t, tried, at))))) =
      by-test machine name image old new text asked wrote m read attached i is t tried t.sound refl at
