-- What a `pair` has done, from its course.
use Rattle.std.proofs.Common.{◌≡◌, ℕ, List, [], ◌∷◌, ◌++◌, Result, Ok, Err, OnOk, sym, subst}
use Rattle.base_io.specs.Sink.{Wrote}
use Rattle.machine_shape.specs.declared.Shape.{Shape}
use Rattle.machine_meaning.specs.Vocabulary.{Covers, Faults}
use Rattle.machine_history.specs.Vocabulary.{IsHistoryOf}
use Rattle.machine_meaning.proofs.Faultless.{covers_none}
use Rattle.machine_history.proofs.RowsOver.{clean, clean_faultless}
use Rattle.cmd_steps.specs.Vocabulary.{Outside, around, Course, ends, Asks, IsWritten, LoadsOnce}
use Rattle.cmd_steps.specs.declared.refusal.Stop.{Stop}
use Rattle.cmd_steps.proofs.Standing.{Standing}
use Rattle.diag_list.specs.Lists.{MadeFewLoads}
use Rattle.run_image.specs.Headline.{BeginsWithList}
use Rattle.run_image.proofs.Headlines as done
use Rattle.cmd_pair.specs.{Pair.pair_course, Headline.IsPaired, Headline.HaveRoomLeft}
use Rattle.cmd_pair.proofs.PairLaws.{words}
use Rattle.place_both.proofs.WhileAlone.{first-right, second-right}

module _ (machine name first second vectors : List ℕ) (old new : Outside) where
  abbrev course : Course
  course = pair_course machine name first second vectors (around old) (around new)

  -- wherever it ends
  pub begins : Standing course old.sink new.sink → BeginsWithList machine name old new
  begins s = done.begins (words machine name first second vectors) old new s

  pub few-loads : Standing course old.sink new.sink → MadeFewLoads machine name LoadsOnce (around old) (around new)
  few-loads s = done.few-loads (words machine name first second vectors) old new s

  -- all is done
  pub paired : (text : List ℕ) → new.store.asked ≡ old.store.asked ++ machine ∷ first ∷ second ∷ vectors ∷ []
      → Wrote old.sink.written new.sink.written text → course text ends
      → IsPaired machine name first second vectors old new × HaveRoomLeft machine first second old new
  paired text asked wrote at =
      let h = done.has-done (words machine name first second vectors) old new text wrote at in
      let r = h.ran.2.2 in
      let both = r.laid.0 in
      let here : (f : Faults) → Covers h.shape r.made.list.list f → Covers r.made.list.shape r.made.list.list f = λ f. subst (λ (s : Shape). Covers s r.made.list.list f) (sym r.list.shape) in (
        record {
          shape = h.shape;
          first_draft = h.ran.0;
          second_draft = h.ran.2.0;
          made = r.made;
          image = r.image;
          all_vectors = r.vectors;
          rows = r.rows;
          first_is = h.ran.1;
          second_is = h.ran.2.1;
          list_shape = r.list.shape;
          asked_in_order = record { asked = asked; machine_is = h.machine_is; attached = h.attached };
          written_whole = r.written_whole;
          covers_every_fault = r.list.right.covers;
          uses_nothing_listed = r.uses_nothing_listed;
          inputs = both.inputs;
          outputs = both.outputs;
          routed = both.routed;
          image_right = λ f covered. r.right f (here f covered);
          as_the_machine_read = r.as_read;
          exactly_the_outputs = r.outputs;
          first_image = both.first_image;
          second_image = both.second_image;
          tenants = both.tenants;
          apart = λ f covered. both.apart f (here f covered);
          first_right = λ f covered. both.first_right f (here f covered);
          second_right = λ f covered. both.second_right f (here f covered);
          listed_parts_at_will = λ hist faults covered ran.
              r.over hist (subst (λ (s : Shape). IsHistoryOf s hist) (sym r.list.shape) faults) (λ cycle instant. here (hist cycle instant) (covered cycle instant)) ran;
          first_while_alone = λ hist n left ran.
              first-right r.made.list h.ran.0 h.ran.2.0 r.image both r.vectors r.rows new.rig r.widths r.as_read.drives r.as_read.rows_are (both.first_right clean (covers_none clean_faultless)) hist n left ran;
          second_while_alone = λ hist n left ran.
              second-right r.made.list h.ran.0 h.ran.2.0 r.image both r.vectors r.rows new.rig r.widths r.as_read.drives r.as_read.rows_are (both.second_right clean (covers_none clean_faultless)) hist n left ran;
          tight = r.list.right.tight;
          fair = r.list.right.fair;
          few = r.list.few;
          loaded_once = r.loaded;
        },
        record {
          first_draft = h.ran.0;
          second_draft = h.ran.2.0;
          list = r.made.list;
          rest = r.rest;
          machine_is = r.machine_is;
          first_is = h.ran.1;
          second_is = h.ran.2.1;
          is_list = r.list.kept;
          written = r.stands;
          room = r.laid.1;
        },
      )

  -- at the end of a body
  pub paired-done : {U : Type 0} (result : Result U Stop) → Asks (machine ∷ first ∷ second ∷ vectors ∷ []) result old.store new.store
      → IsWritten course result old.sink new.sink
      → OnOk result (IsPaired machine name first second vectors old new) × OnOk result (HaveRoomLeft machine first second old new)
  paired-done (Ok u) asks w = paired w.0 asks.all w.2 w.1
  paired-done (Err stop) asks w = (tt, tt)
