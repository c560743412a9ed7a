-- What a `twice` that is done has done, from its course.
use Rattle.std.proofs.Common.{◌≡◌, ◌+◌, ◌∙◌, ℕ, List, [], ◌∷◌, ◌++◌, length, Result, Ok, Err, OnOk, sym, ap, subst, map, take}
use Rattle.cmd_twice.proofs.Vocabulary.{Wrote, Shape, Covers, Faults, image_row, Explains, cycles_of, readings_of, Outside, around, Course}
use Rattle.cmd_twice.proofs.Vocabulary.{ends, Asks, IsWritten, LoadsOnce, Stop, Standing, MadeFewLoads, all_repeated, Two, twice_course}
use Rattle.machine_history.specs.Vocabulary.{IsHistoryOf}
use Rattle.run_image.specs.Headline.{BeginsWithList}
use Rattle.run_image.proofs.Headlines as done
use Rattle.cmd_twice.specs.Headline.{IsDoneTwice, HasRoomLeft, AreReadByBoth}
use Rattle.cmd_twice.proofs.TwiceLaws.{words}
use Rattle.cmd_twice.proofs.Doubles.{AreWide}
use Rattle.cmd_twice.proofs.Reading.{wide-vectors, wide-rows, all-taken, read-by-both, whole-rows}

module _ (machine name design vectors : List ℕ) (old new : Outside) where
  abbrev course : Course
  course = twice_course machine name design vectors (around old) (around new)

  -- wherever it ends
  pub begins : Standing course old.sink new.sink → BeginsWithList machine name old new
  begins s = done.begins (words machine name design vectors) old new s

  pub few-loads : Standing course old.sink new.sink → MadeFewLoads machine name LoadsOnce (around old) (around new)
  few-loads s = done.few-loads (words machine name design vectors) old new s

  -- all is done
  pub compared : (text : List ℕ) → new.store.asked ≡ old.store.asked ++ machine ∷ design ∷ vectors ∷ []
      → Wrote old.sink.written new.sink.written text → course text ends
      → IsDoneTwice machine name design vectors old new × HasRoomLeft machine design old new
  compared text asked wrote at =
      let h = done.has-done (words machine name design vectors) old new text wrote at in
      let draft = h.ran.0 in
      let r = h.ran.2 in
      let both = r.laid.both in
      let wide : AreWide (length draft.inputs) r.vectors = wide-vectors (length draft.inputs) r.image r.vectors both.inputs r.widths in
      let taken : take (length r.rows) (map (image_row r.image) (readings_of (cycles_of new.rig))) ≡ all_repeated Two r.rows = ap (take (length r.rows)) (sym r.as_read.rows_are) ∙ all-taken r.rows in
      let wide_rows : AreWide (length draft.outputs) r.rows = wide-rows (length draft.outputs) r.image (readings_of (cycles_of new.rig)) r.rows both.outputs taken in
      let covers : (f : Faults) → Explains f new.rig → Covers r.made.list.shape r.made.list.list f = λ f e. r.covers f e in
      let read : AreReadByBoth r.made.list draft r.vectors r.rows new.rig =
      read-by-both r.made.list draft r.image r.laid r.vectors new.rig r.uses_nothing_listed.config r.as_read.drives r.widths covers r.rows taken in
      let here : (f : Faults) → Covers h.shape r.made.list.list f → Covers r.made.list.shape r.made.list.list f = λ f. subst (λ (s : Shape). Covers s r.made.list.list f) (sym r.list.shape) in (
        record {
          shape = h.shape;
          draft = draft;
          made = r.made;
          image = r.image;
          all_vectors = r.vectors;
          rows = r.rows;
          design_is = h.ran.1;
          list_shape = r.list.shape;
          asked_in_order = record { asked = asked; machine_is = h.machine_is; attached = h.attached };
          written_whole = r.written_whole;
          covers_every_fault = r.list.right.covers;
          uses_nothing_listed = r.uses_nothing_listed;
          inputs = both.inputs;
          outputs = both.outputs;
          routed = both.routed;
          image_right = λ f covered. both.right f (here f covered);
          as_the_machine_read = r.as_read;
          exactly_the_outputs = λ f e. whole-rows draft r.vectors r.rows wide wide_rows (r.outputs f e);
          first_image = both.first_image;
          second_image = both.second_image;
          tenants = both.tenants;
          apart = λ f covered. both.apart f (here f covered);
          first_right = λ f covered. both.first_right f (here f covered);
          second_right = λ f covered. both.second_right f (here f covered);
          listed_parts_at_will = λ hist faults covered ran.
              whole-rows draft r.vectors r.rows wide wide_rows
              (r.over hist (subst (λ (s : Shape). IsHistoryOf s hist) (sym r.list.shape) faults) (λ cycle instant. here (hist cycle instant) (covered cycle instant)) ran);
          one_copy_is_enough = read.one_copy_is_enough;
          tight = r.list.right.tight;
          fair = r.list.right.fair;
          few = r.list.few;
          loaded_once = r.loaded;
        },
        record {
          draft = draft;
          list = r.made.list;
          rest = r.rest;
          machine_is = r.machine_is;
          design_is = h.ran.1;
          is_list = r.list.kept;
          written = r.stands;
          room = r.laid.room;
        },
      )

  -- at the end of a body
  pub done-twice : {U : Type 0} (result : Result U Stop) → Asks (machine ∷ design ∷ vectors ∷ []) result old.store new.store
      → IsWritten course result old.sink new.sink
      → OnOk result (IsDoneTwice machine name design vectors old new) × OnOk result (HasRoomLeft machine design old new)
  done-twice (Ok u) asks w = compared w.0 asks.all w.2 w.1
  done-twice (Err stop) asks w = (tt, tt)
