-- What a `run` that is done has done, from its course.
use Rattle.std.proofs.Common.{◌≡◌, ℕ, List, [], ◌∷◌, ◌++◌, take, sym, ap, ◌∙◌, subst, inl, inr}
use Rattle.std.proofs.lemmas.List.{take-map}
use Rattle.base_io.specs.Sink.{Wrote}
use Rattle.cmd_run.proofs.Vocabulary.{image_row, cycles_of, readings_of, Outside, around, ends, image_rows, image-ends, run_course}
use Rattle.machine_history.specs.Vocabulary.{IsRunOver}
use Rattle.machine_history.proofs.Images.{image_runs_alone}
use Rattle.cmd_run.specs.Headline.{IsRan}

module _ (machine name image vectors : List ℕ) (old new : Outside) where
  pub ran : (text : List ℕ) → new.store.asked ≡ old.store.asked ++ machine ∷ image ∷ vectors ∷ [] → Wrote old.sink.written new.sink.written text → run_course machine name image vectors (around old) (around new) text ends → IsRan machine name image vectors old new
  ran text asked wrote (inl h) = absurd h.1
  ran text asked wrote (inr (m, read, inl h)) = absurd h.1
  ran text asked wrote (inr (m, read, inr (u, attached, inl h))) = absurd h.1
  ran text asked wrote (inr (m, read, inr (u, attached, inr (i, is, h)))) =
      let run = image-ends (image_rows i (old.store.contents vectors) new.store old.rig.failures new.rig) (record { image = i; vectors = vectors; files = image ∷ machine ∷ []; begun = old.store; before = old.rig.loads }) (around new) text h in
      let rows = run.rows in
      record {
        shape = m;
        loaded = i;
        all_vectors = rows.has.vectors;
        rows = rows.has.rows;
        asked = asked;
        machine_is = read;
        attached = attached;
        is_image = is.1;
        image_is = is.2;
        are_all = run.all;
        written = subst (λ t. Wrote old.sink.written new.sink.written t) run.text_is wrote;
        config = rows.session.config;
        drives = rows.session.drives;
        rows_are = rows.session.rows_are;
        rows_right = rows.has.are;
        left_alone = λ h none n alone left faultless ran_over run.
            ap (take n) rows.session.rows_are ∙ take-map (image_row i) n (readings_of (cycles_of new.rig))
            ∙ image_runs_alone i is.1 h none faultless n rows.has.vectors _ alone left
            (subst (λ ds. IsRunOver h i.config ds (readings_of (cycles_of new.rig))) rows.session.drives ran_over) run
            ∙ sym (take-map (image_row i) n alone);
        loads = run.loaded;
      }
