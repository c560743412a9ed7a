-- How the steps of an image's rows follow one another.
use Rattle.run_image.proofs.Vocabulary.{◌≡◌, ℕ, ◌≤◌, List, [], ◌∷◌, refl, sym, ap, ◌∙◌, inl, Result, Ok, Err, next_count, Told, StoreState}
use Rattle.run_image.proofs.Vocabulary.{SinkState, RigState, LoadFails, Narrows, Tells, RigFail, Failed, Memory, ImageValue, Stop, rig-took}
use Rattle.run_image.proofs.Vocabulary.{rig-stopped, step-stops, step-gives, Copies, prepares, Running}
use Rattle.cmd_steps.specs.Vocabulary.{outputs_line, Outside, outside, around, StandsIn, Course, RowWork, all_rows, stop_of_rig, opens, Took, Puts, Follows}
use Rattle.cmd_steps.proofs.OpenedRows.{opening-stops, outputs-stops, rows-then}
use Rattle.run_image.specs.Rows.{RowsBegin, IsAtOutputs, copied_rows, image_course, loaded_course, loads}

-- ---- the load as a step

module _ (old new : RigState) (machine : new.machine ≡ old.machine) (narrows : Narrows old new) (tells : Tells old new) (store : StoreState) (sink : SinkState) (later : old.failures ≤ new.failures) where
  pub load-took : (rows : Running) → new.loads ≡ next_count old.loads → Took [] (prepares old new) (Ok rows) (outside store old sink) (outside store new sink)
  load-took rows counted = rig-took (prepares old new) old new store sink machine narrows tells later rows counted

  pub load-stopped : (fail : RigFail) → new.loads ≡ old.loads → LoadFails fail old new → Took [] (prepares old new) (Err (stop_of_rig fail)) (outside store old sink) (outside store new sink)
  load-stopped Failed same fails = rig-stopped (prepares old new) old new store sink machine narrows tells later (stop_of_rig Failed) (tt, inl same) fails
  load-stopped Memory same fails = rig-stopped (prepares old new) old new store sink machine narrows tells later (stop_of_rig Memory) (tt, inl same) tt

-- ---- what follows on it

-- the rig is as it was but for its session
abbrev pub SameRig : RigState → RigState → Type 0
SameRig old new = (new.machine ≡ old.machine) × (new.loads ≡ old.loads)

-- the image was loaded
loaded-then : {U : Type 0} (w : RowWork) (b : RowsBegin) (rows : Running) (result : Result U Stop) (old mid new : Outside) → Took [] (prepares old.rig mid.rig) (Ok rows) old mid → b.before ≡ old.rig.loads → mid.rig.machine ≡ old.rig.machine → Follows ⊥ (b.vectors ∷ []) (SameRig mid.rig new.rig) (loaded_course w b (around new)) result mid new → Follows ⊥ (b.vectors ∷ []) (new.rig.machine ≡ old.rig.machine) (image_course w b (around new)) result old new
loaded-then w b rows result old mid new took before machine rest_is =
    let same = rest_is.machines in
    let counted : new.rig.loads ≡ next_count b.before = same.1 ∙ (took.gives ∙ ap next_count (sym before)) in
    step-gives (loads b.before new.rig) (StandsIn b.files b.begun new.store) (λ _. loaded_course w b (around new)) (prepares old.rig mid.rig) [] (b.vectors ∷ []) _ _ rows tt result old mid new took counted rest_is (same.0 ∙ machine)

module _ (c : Copies) (i : ImageValue) (vectors : List ℕ) (files : List (List ℕ)) (begun : StoreState) (failures : ℕ) (old mid : Outside) (stands : StandsIn files begun mid.store) where
  abbrev begin : RowsBegin
  begin = record { image = i; vectors = vectors; files = files; begun = begun; before = old.rig.loads }

  abbrev work : Outside → RowWork
  work new = copied_rows c i (mid.store.contents vectors) new.store failures new.rig

  abbrev course : Outside → Course
  course new = image_course (work new) begin (around new)

  -- it isn't loaded
  pub load-stops : {U : Type 0} (stop : Stop) (result : Result U Stop) → result ≡ Err stop → mid.rig.machine ≡ old.rig.machine → Took [] (prepares old.rig mid.rig) (Err stop) old mid → Follows ⊥ (vectors ∷ []) (mid.rig.machine ≡ old.rig.machine) (course mid) result old mid
  load-stops stop result is machine took =
      step-stops (loads old.rig.loads mid.rig) (StandsIn files begun mid.store) (λ _. loaded_course (work mid) begin (around mid)) (prepares old.rig mid.rig) [] (vectors ∷ []) _ stop result old mid is took took.stops stands machine

  -- or it is, and what follows is that of this image
  pub load-gives : {U : Type 0} (rows : Running) (k : Copies) (j : ImageValue) (result : Result U Stop) (new : Outside) → mid.rig.machine ≡ old.rig.machine → Took [] (prepares old.rig mid.rig) (Ok rows) old mid → k ≡ c → j ≡ i → Follows ⊥ (vectors ∷ []) (SameRig mid.rig new.rig) (loaded_course (copied_rows k j (mid.store.contents vectors) new.store failures new.rig) (record { image = j; vectors = vectors; files = files; begun = begun; before = old.rig.loads }) (around new)) result mid new → Follows ⊥ (vectors ∷ []) (new.rig.machine ≡ old.rig.machine) (course new) result old new
  load-gives rows k j result new machine loaded copies image rest_is =
      loaded-then (work new) begin rows result old mid new loaded refl machine (rw (← copies, ← image) rest_is)

-- the image stands loaded
module _ (c : Copies) (i : ImageValue) (vectors : List ℕ) (files : List (List ℕ)) (begun : StoreState) (failures before : ℕ) (mid : Outside) (stands : StandsIn files begun mid.store) where
  abbrev rows_of : Outside → RowWork
  rows_of new = copied_rows c i (mid.store.contents vectors) new.store failures new.rig

  abbrev rest : Outside → Course
  rest new = loaded_course (rows_of new) (record { image = i; vectors = vectors; files = files; begun = begun; before = before }) (around new)

  abbrev at_line : Outside → Type 0
  at_line new = IsAtOutputs i vectors (around new)

  -- the vectors aren't opened
  pub open-stops : {U : Type 0} (stop : Stop) (result : Result U Stop) (new : Outside) → result ≡ Err stop → Took (vectors ∷ []) (opens (mid.store.contents vectors)) (Err stop) mid new → SameRig mid.rig new.rig → Follows ⊥ (vectors ∷ []) (SameRig mid.rig new.rig) (rest new) result mid new
  open-stops stop result new is took same =
      opening-stops (mid.store.contents vectors) vectors files begun (at_line new) (all_rows (rows_of new)) mid refl stands new _ stop result is took same

  module _ (opened : Outside) (took : Took (vectors ∷ []) (opens (mid.store.contents vectors)) (Ok tt) mid opened) (same : SameRig mid.rig opened.rig) where
    -- the line isn't written
    pub line-stops : {U : Type 0} (stop : Stop) (result : Result U Stop) (sink : SinkState) → result ≡ Err stop → Puts {T = Unit {0}} outputs_line (Err stop) opened.sink sink → at_line opened → Follows ⊥ (vectors ∷ []) (SameRig mid.rig opened.rig) (rest opened) result mid (outside opened.store opened.rig sink)
    line-stops stop result sink is puts at =
        outputs-stops (mid.store.contents vectors) vectors files begun (at_line opened) (all_rows (rows_of opened)) mid refl stands opened took _ stop result sink is puts at same

    -- or it is, and the rows are followed: those of this file
    pub rows-follow : {U : Type 0} (told : Told) (result : Result U Stop) (sink : SinkState) (new : Outside) → told ≡ mid.store.contents vectors → Puts {T = Unit {0}} outputs_line (Ok tt) opened.sink sink → SameRig mid.rig new.rig → Follows ⊥ [] (SameRig opened.rig new.rig) (all_rows (copied_rows c i told new.store failures new.rig)) result (outside opened.store opened.rig sink) new → Follows ⊥ (vectors ∷ []) (SameRig mid.rig new.rig) (rest new) result mid new
    rows-follow told result sink new file puts rigs rest_is =
        rows-then (mid.store.contents vectors) vectors files begun (at_line new) (all_rows (rows_of new)) mid refl stands opened took _ (SameRig opened.rig new.rig) _ result sink new puts (rw (← file) rest_is) rigs
