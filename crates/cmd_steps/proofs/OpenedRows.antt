-- A file of vectors that is opened, the line `outputs` behind that, and then the rows.
use Rattle.std.proofs.Common.{◌≡◌, List, ℕ, [], ◌∷◌, refl, subst, inl, Result, Ok, Err}
use Rattle.cmd_steps.proofs.Vocabulary.{Told, IsPresent, StoreState, SinkState, Memory, Stop, Refused}
use Rattle.cmd_steps.specs.Vocabulary.{outputs_line, Outside, outside, StandsIn, Course, after, write, opens, Took, Puts, Follows}
use Rattle.cmd_steps.proofs.Taking.{stands-then, took-nothing, step-stops, step-gives, line-stops, line-gives}

-- `here` holds while the line is written
abbrev pub opened : Told → (vectors : List ℕ) → (files : List (List ℕ)) → (begun ended : StoreState) → (here : Type 0) → Course → Course
opened told vectors files begun ended here rows = after (opens told) (StandsIn (vectors ∷ files) begun ended) (λ _. write outputs_line here rows)

module _ (told : Told) (vectors : List ℕ) (files : List (List ℕ)) (begun : StoreState) (here : Type 0) (rows : Course) (old : Outside) (same : old.store.contents vectors ≡ told) (stands : StandsIn files begun old.store) where
  -- memory was lacking for the rows
  pub opening-lacks : {U : Type 0} (result : Result U Stop) → result ≡ Err (Refused Memory) → Follows ⊥ (vectors ∷ []) (Unit {0}) (opened told vectors files begun old.store here rows) result old old
  opening-lacks result is =
      step-stops (opens told) (StandsIn (vectors ∷ files) begun old.store) (λ _. write outputs_line here rows) (opens told) [] (vectors ∷ []) (Unit {0}) _ result old old is (took-nothing (opens told) _ old refl tt) tt (inl stands) tt

  module _ (mid : Outside) where
    pub opening-stops : {U : Type 0} (asks : Type 0) (stop : Stop) (result : Result U Stop) → result ≡ Err stop → Took (vectors ∷ []) (opens (old.store.contents vectors)) (Err stop) old mid → asks → Follows ⊥ (vectors ∷ []) asks (opened told vectors files begun mid.store here rows) result old mid
    opening-stops asks stop result is took asked =
        step-stops (opens told) (StandsIn (vectors ∷ files) begun mid.store) (λ _. write outputs_line here rows) (opens (old.store.contents vectors)) (vectors ∷ []) [] asks stop result old mid is took took.stops (stands-then files (vectors ∷ []) begun old.store mid.store stands took.place) asked

    module _ (took : Took (vectors ∷ []) (opens (old.store.contents vectors)) (Ok tt) old mid) where
      opened-then : {U : Type 0} (asks then_asks : Type 0) (result : Result U Stop) (new : Outside) → Follows ⊥ [] then_asks (write outputs_line here rows) result mid new → asks → Follows ⊥ (vectors ∷ []) asks (opened told vectors files begun new.store here rows) result old new
      opened-then asks then_asks result new rest_is asked =
          step-gives (opens told) (StandsIn (vectors ∷ files) begun new.store) (λ _. write outputs_line here rows) (opens (old.store.contents vectors)) (vectors ∷ []) [] asks then_asks tt tt result old mid new took (subst IsPresent same took.gives) rest_is asked

      -- the line isn't written
      pub outputs-stops : {T U : Type 0} (asks : Type 0) (stop : Stop) (result : Result U Stop) (sink : SinkState) → result ≡ Err stop → Puts {T = T} outputs_line (Err stop) mid.sink sink → here → asks → Follows ⊥ (vectors ∷ []) asks (opened told vectors files begun mid.store here rows) result old (outside mid.store mid.rig sink)
      outputs-stops asks stop result sink is puts at asked =
          opened-then asks asks result (outside mid.store mid.rig sink) (line-stops outputs_line here rows mid.store mid.rig mid.sink sink [] asks stop result is puts at asked) asked

      -- or it is, and the rows are followed
      pub rows-then : {T U : Type 0} (asks then_asks : Type 0) (x : T) (result : Result U Stop) (sink : SinkState) (new : Outside) → Puts outputs_line (Ok x) mid.sink sink → Follows ⊥ [] then_asks rows result (outside mid.store mid.rig sink) new → asks → Follows ⊥ (vectors ∷ []) asks (opened told vectors files begun new.store here rows) result old new
      rows-then asks then_asks x result sink new puts rest_is asked =
          opened-then asks then_asks result new (line-gives outputs_line here rows mid.store mid.rig mid.sink sink [] then_asks then_asks x result new puts rest_is rest_is.machines) asked
