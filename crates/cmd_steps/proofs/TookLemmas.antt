-- Files that are read, as steps.
use Rattle.std.proofs.Common.{◌≡◌, ℕ, ◌≤◌, List, [], ◌∷◌, ◌++◌, refl, inr, arith, Result, Ok, Err, IfOk, IfErr}
use Rattle.cmd_steps.proofs.Vocabulary.{Told, holds, StoreState, WholeFails, SinkState, StoreFail, RigState, Stop, Refused, Sink}
use Rattle.base_io.specs.declared.store.StoreFail.TheVariants.{Failed, Memory}
use Rattle.cmd_steps.specs.Vocabulary.{Outside, outside, IsLater, ReadFile, StandsAmong, Step, Asks, AsksSome, StepStops, IsCounted, stop_of_store, Took, TookAmong}
use Rattle.cmd_steps.proofs.Counting.{counted-after}
use Rattle.cmd_steps.proofs.TextLemmas.{IsTextOf, IsOfFile}
use Rattle.cmd_steps.proofs.WriteLemmas.{asks-after}
use Rattle.cmd_steps.proofs.Logs.{log_same}

module _ {T : Type 0} (step : Told → Step T) (file : ReadFile) (of : IsOfFile file.most step) (old new : StoreState) (rig : RigState) (sink : SinkState) (contents : new.contents ≡ old.contents) (later : old.failures ≤ new.failures) (place : StandsAmong (file ∷ []) old new) where
  abbrev name : List ℕ
  name = file.name

  abbrev told : Told
  told = old.contents name

  abbrev begun : Outside
  begun = outside old rig sink

  abbrev ended : Outside
  ended = outside new rig sink

  since : IsLater begun ended
  since = record { contents = contents; texts = refl; kind = refl; store = later; rig = omega arith; sink = omega arith; log = log_same rig }

  read-took : (result : Result T Stop) → Asks (name ∷ []) result old new → IfOk result (step told).gives → IfErr result (StepStops (step told)) → IfErr result (λ stop. IsCounted ⊥ stop begun ended) → TookAmong (name ∷ []) (file ∷ []) (step told) result begun ended
  read-took result asked gives stops counted = record {
    later = since;
    silent = refl;
    asked = asked;
    place = place;
    gives = gives;
    stops = stops;
    counted = counted;
  }

  -- the file isn't read
  fail-stops : (fail : StoreFail) → StepStops (step told) (stop_of_store fail)
  fail-stops Failed = of.fails told
  fail-stops Memory = of.lacks told

  fail-asks : (fail : StoreFail) → WholeFails fail name old new → AsksSome (name ∷ []) old.asked new.asked
  fail-asks Failed fails = inr fails.1
  fail-asks Memory fails = fails

  fail-counts : (fail : StoreFail) → WholeFails fail name old new → IsCounted ⊥ (stop_of_store fail) begun ended
  fail-counts Failed fails = fails.0
  fail-counts Memory fails = tt

  pub file-fails : (fail : StoreFail) → WholeFails fail name old new → TookAmong (name ∷ []) (file ∷ []) (step told) (Err (stop_of_store fail)) begun ended
  file-fails fail fails =
      read-took (Err (stop_of_store fail)) (record { all = tt; some = fail-asks fail fails }) tt (fail-stops fail) (fail-counts fail fails)

  -- it has too many bytes
  pub file-long : (stop : Stop) → new.asked ≡ old.asked ++ name ∷ [] → StepStops (step told) stop → IsCounted ⊥ stop begun ended → TookAmong (name ∷ []) (file ∷ []) (step told) (Err stop) begun ended
  file-long stop asked stops counted = read-took (Err stop) (record { all = tt; some = inr asked }) tt stops counted

  -- its text was read, and this was made of it
  text-gives : (text : List ℕ) (result : Result T Stop) → IsTextOf file.most told text → IfOk result (step (holds text)).gives → IfOk result (step told).gives
  text-gives text (Ok x) is gives = of.gives told text is x gives
  text-gives text (Err stop) is gives = tt

  text-stop : (text : List ℕ) (stop : Stop) → IsTextOf file.most told text → StepStops (step (holds text)) stop → StepStops (step told) stop
  text-stop text (Refused refusal) is stops = of.stops told text is refusal stops
  text-stop text (Sink fail) is stops = absurd stops

  text-stops : (text : List ℕ) (result : Result T Stop) → IsTextOf file.most told text → IfErr result (StepStops (step (holds text))) → IfErr result (StepStops (step told))
  text-stops text (Ok x) is stops = tt
  text-stops text (Err stop) is stops = text-stop text stop is stops

  pub file-text : (text : List ℕ) (result : Result T Stop) → new.asked ≡ old.asked ++ name ∷ [] → IsTextOf file.most told text → ((o : Outside) → Took [] (step (holds text)) result o o) → TookAmong (name ∷ []) (file ∷ []) (step told) result begun ended
  file-text text result asked is takes =
      let took = takes ended in
      read-took result (asks-after (name ∷ []) [] result old new new asked took.asked) (text-gives text result is took.gives) (text-stops text result is took.stops)
      (counted-after result begun ended ended since took.counted)
