-- How the steps follow one another: a lemma for each place where the body ends, over plain states.
use Rattle.std.proofs.Common.{◌≡◌, ℕ, List, [], ◌∷◌, Bool, refl, sym, subst, Result, Ok, Err}
use Rattle.run_image.proofs.Vocabulary.{StoreState, SinkState, Shape, Covers, Faults, DefectList, ImageValue, ReadsRows, RigState, Explains}
use Rattle.run_image.proofs.Vocabulary.{Outside, StandsIn, outside, around, Took, Follows, Stop, step-stops, step-gives, Listed, IsListed}
use Rattle.run_image.proofs.Vocabulary.{WritesList, all_repeated, Copies, RowsBegin, AreRunRows, AreRowsOf, copied_rows, image_course, Laid}
use Rattle.run_image.proofs.Vocabulary.{IsLaidOn, AreLaidRows, RunBegin, HasStayed, machine_listed, laid_run, image_run}
use Rattle.cmd_steps.proofs.Following.{course-map}
use Rattle.cmd_steps.proofs.Logs.{narrows_by}
use Rattle.diag_list.proofs.Following.{list-ends, list-goes}
use Rattle.run_image.proofs.CourseLemmas.{rows-also}

-- ---- rows of an image that are those of what was laid

are-laid : (w : Laid) (i : ImageValue) (rig : RigState) → ((f : Faults) → Explains f rig → ReadsRows f i w.rows) → (vectors rows : List (List Bool)) → AreRowsOf rig i vectors rows → AreLaidRows w rig i vectors rows
are-laid w i rig right vectors rows are = record {
  read = are;
  right = λ f e.
      let read : AreRunRows f i vectors rows = are.read f e in
      subst (λ (r : List (List Bool)). w.rows vectors r) (sym read.2) (right f e vectors read.0 are.widths read.1);
}

-- ---- it is laid

module _ {U : Type 0} (w : Laid) (d : DefectList) (b : RunBegin) where
  pub lay-stops : (stop : Stop) (result : Result U Stop) (o : Outside) → result ≡ Err stop → Took [] (w.lays d) (Err stop) o o → StandsIn b.files b.begun o.store → Follows ⊥ (b.vectors ∷ []) (o.rig.machine ≡ o.rig.machine) (laid_run w b (around o) (record { list = d; loads = o.rig.loads })) result o o
  lay-stops stop result o is took at =
      let made : Listed = record { list = d; loads = o.rig.loads } in
      step-stops (w.lays d) (HasStayed b made (around o)) (image_run w b (around o) made) (w.lays d) [] (b.vectors ∷ []) _ stop result o o is took took.stops (at, refl) refl

  -- the image is right under the faults that the list covers, so its rows are those of what was laid
  lay-gives : (m : Shape) (before : ℕ) (i : ImageValue) (result : Result U Stop) (old new : Outside) → IsListed m before old.rig (record { list = d; loads = old.rig.loads }) → Took [] (w.lays d) (Ok i) old old → IsLaidOn w d i → old.store.contents ≡ b.begun.contents → Follows ⊥ (b.vectors ∷ []) (new.rig.machine ≡ old.rig.machine) (image_course (copied_rows w.copies i (old.store.contents b.vectors) new.store b.failures new.rig) (record { image = i; vectors = b.vectors; files = b.files; begun = b.begun; before = old.rig.loads }) (around new)) result old new → Follows ⊥ (b.vectors ∷ []) (new.rig.machine ≡ old.rig.machine) (laid_run w b (around new) (record { list = d; loads = old.rig.loads })) result old new
  lay-gives m before i result old new list took on same is =
      let made : Listed = record { list = d; loads = old.rig.loads } in
      let at : RowsBegin = record { image = i; vectors = b.vectors; files = b.files; begun = b.begun; before = old.rig.loads } in
      let right : (f : Faults) → Explains f new.rig → ReadsRows f i w.rows = λ f e.
      on.right f (subst (λ (s : Shape). Covers s d.list f) (sym list.shape) (list.right.covers f (narrows_by is.later.log is.machines f e))) in
      let rows = copied_rows w.copies i (old.store.contents b.vectors) new.store b.failures new.rig in
      let written = course-map (image_course rows at (around new)) _ (rows-also rows (λ vectors rows. AreLaidRows w new.rig i (all_repeated w.copies vectors) (all_repeated w.copies rows)) (λ vectors rows are. are-laid w i new.rig right (all_repeated w.copies vectors) (all_repeated w.copies rows) are) at (around new)) result old.sink new.sink is.written in
      step-gives (w.lays d) (HasStayed b made (around new)) (image_run w b (around new) made) (w.lays d) [] (b.vectors ∷ []) _ _ i i result old old new took took.gives
      (record { later = is.later; asked = is.asked; machines = is.machines; written = rw same at written; counted = is.counted }) is.machines

  -- the same, by the copies that are driven
  pub lay-runs : (m : Shape) (before : ℕ) (i : ImageValue) (c : Copies) (result : Result U Stop) (old new : Outside) → IsListed m before old.rig (record { list = d; loads = old.rig.loads }) → c ≡ w.copies → Took [] (w.lays d) (Ok i) old old → IsLaidOn w d i → old.store.contents ≡ b.begun.contents → Follows ⊥ (b.vectors ∷ []) (new.rig.machine ≡ old.rig.machine) (image_course (copied_rows c i (old.store.contents b.vectors) new.store b.failures new.rig) (record { image = i; vectors = b.vectors; files = b.files; begun = b.begun; before = old.rig.loads }) (around new)) result old new → Follows ⊥ (b.vectors ∷ []) (new.rig.machine ≡ old.rig.machine) (laid_run w b (around new) (record { list = d; loads = old.rig.loads })) result old new
  lay-runs m before i c result old new list copies took on same is =
      let at : RowsBegin = record { image = i; vectors = b.vectors; files = b.files; begun = b.begun; before = old.rig.loads } in
      let follows : Copies → Type 0 = λ c. Follows ⊥ (b.vectors ∷ []) (new.rig.machine ≡ old.rig.machine) (image_course (copied_rows c i (old.store.contents b.vectors) new.store b.failures new.rig) at (around new)) result old new in
      lay-gives m before i result old new list took on same (subst follows copies is)

-- ---- the list is made and written

module _ (w : Laid) (m : Shape) (before : ℕ) (b : RunBegin) (s : StoreState) (r0 r1 : RigState) (a k : SinkState) (loads : r0.loads ≡ before) (machine : r1.machine ≡ r0.machine) (at : StandsIn b.files b.begun s) where
  pub list-fails : {U : Type 0} (stop : Stop) (result : Result U Stop) → result ≡ Err stop → WritesList m (Err stop) (outside s r0 a) (outside s r1 k) → Follows ⊥ (b.vectors ∷ []) (r1.machine ≡ r0.machine) (machine_listed w m before b (around (outside s r1 k))) result (outside s r0 a) (outside s r1 k)
  list-fails stop result is written =
      let end = around (outside s r1 k) in
      list-ends m before (StandsIn b.files b.begun s) (λ l. HasStayed b l end) (λ l. laid_run w b end l) (b.vectors ∷ []) s r0 r1 a k loads machine stop result is written at (λ l is. (at, sym is))

  module _ (d : DefectList) (written : WritesList m (Ok d) (outside s r0 a) (outside s r1 k)) where
    pub listed-then : {U : Type 0} (result : Result U Stop) (new : Outside) → Follows ⊥ (b.vectors ∷ []) (new.rig.machine ≡ r1.machine) (laid_run w b (around new) (record { list = d; loads = r1.loads })) result (outside s r1 k) new → Follows ⊥ (b.vectors ∷ []) (new.rig.machine ≡ r0.machine) (machine_listed w m before b (around new)) result (outside s r0 a) new
    listed-then result new rest =
        list-goes m before (StandsIn b.files b.begun new.store) (λ l. HasStayed b l (around new)) (λ l. laid_run w b (around new) l) (b.vectors ∷ []) s r0 r1 a k loads machine d result new written rest
