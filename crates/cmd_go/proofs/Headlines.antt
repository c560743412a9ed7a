-- What a `go` has done, from its course.
use Rattle.std.proofs.Common.{◌≡◌, ℕ, List, [], ◌∷◌, ◌++◌, Result, Ok, Err, OnOk, sym, subst}
use Rattle.base_io.specs.Sink.{Wrote}
use Rattle.machine_shape.specs.declared.Shape.{Shape}
use Rattle.machine_meaning.specs.Vocabulary.{Covers}
use Rattle.machine_history.specs.Vocabulary.{IsHistoryOf}
use Rattle.cmd_steps.specs.Vocabulary.{Outside, around, Course, ends, Asks, IsWritten, LoadsOnce}
use Rattle.cmd_steps.specs.declared.refusal.Stop.{Stop}
use Rattle.cmd_steps.proofs.Standing.{Standing}
use Rattle.diag_list.specs.Lists.{MadeFewLoads}
use Rattle.run_image.specs.Headline.{BeginsWithList}
use Rattle.run_image.proofs.Headlines as done
use Rattle.cmd_go.specs.{Go.go_course, Headline.IsWellGone, Headline.HasRoomLeft}
use Rattle.cmd_go.proofs.GoLaws.{words}

module _ (machine name design vectors : List ℕ) (old new : Outside) where
  abbrev course : Course
  course = go_course machine name design vectors (around old) (around new)

  -- wherever it ends
  pub begins : Standing course old.sink new.sink → BeginsWithList machine name old new
  begins s = done.begins (words machine name design vectors) old new s

  pub few-loads : Standing course old.sink new.sink → MadeFewLoads machine name LoadsOnce (around old) (around new)
  few-loads s = done.few-loads (words machine name design vectors) old new s

  -- all is done
  pub gone : (text : List ℕ) → new.store.asked ≡ old.store.asked ++ machine ∷ design ∷ vectors ∷ []
      → Wrote old.sink.written new.sink.written text → course text ends
      → IsWellGone machine name design vectors old new × HasRoomLeft machine design old new
  gone text asked wrote at =
      let h = done.has-done (words machine name design vectors) old new text wrote at in
      let r = h.ran.2 in (
        record {
          gone = record {
            shape = h.shape;
            draft = h.ran.0;
            made = r.made;
            image = r.image;
            all_vectors = r.vectors;
            rows = r.rows;
            design_is = h.ran.1;
            list_shape = r.list.shape;
            asked_in_order = record { asked = asked; machine_is = h.machine_is; attached = h.attached };
            written_whole = r.written_whole;
            covers_every_fault = r.list.right.covers;
            uses_nothing_listed = r.uses_nothing_listed;
            inputs = r.laid.0.inputs;
            outputs = r.laid.0.outputs;
            image_right = λ f covered. r.right f (subst (λ (s : Shape). Covers s r.made.list.list f) (sym r.list.shape) covered);
            as_the_machine_read = r.as_read;
            exactly_the_outputs = r.outputs;
            listed_parts_at_will = λ h faults covered ran.
                r.over h (subst (λ (s : Shape). IsHistoryOf s h) (sym r.list.shape) faults) (λ cycle instant. subst (λ (s : Shape). Covers s r.made.list.list (h cycle instant)) (sym r.list.shape) (covered cycle instant)) ran;
          };
          routed = r.laid.0.routed;
          tight = r.list.right.tight;
          fair = r.list.right.fair;
          few = r.list.few;
          loaded_once = r.loaded;
        },
        record {
          draft = h.ran.0;
          list = r.made.list;
          rest = r.rest;
          machine_is = r.machine_is;
          design_is = h.ran.1;
          is_list = r.list.kept;
          written = r.stands;
          room = r.laid.1;
        },
      )

  -- at the end of a body
  pub gone-done : {U : Type 0} (result : Result U Stop) → Asks (machine ∷ design ∷ vectors ∷ []) result old.store new.store
      → IsWritten course result old.sink new.sink
      → OnOk result (IsWellGone machine name design vectors old new) × OnOk result (HasRoomLeft machine design old new)
  gone-done (Ok u) asks w = gone w.0 asks.all w.2 w.1
  gone-done (Err stop) asks w = (tt, tt)
