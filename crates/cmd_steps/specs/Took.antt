-- What a step comes to, whatever command it stands in; and what a body comes to that makes the steps of a course.
use Rattle.std.specs.Prelude.{◌≡◌, ℕ, ◌≤◌, List, map, OnOk, IfOk, IfErr, Result}
use Rattle.base_io.specs.Sink.{SinkState, Wrote}
use Rattle.cmd_steps.specs.Outside.{Outside, IsLater, ReadFile, StandsAmong, plain_file}
use Rattle.cmd_steps.specs.{Courses.Course, Courses.Step, Stops.Asks, Stops.StepStops, Stops.WriteStops, Stops.IsWritten, Stops.IsCounted}
use Rattle.cmd_steps.specs.declared.refusal.Stop.{Stop}

-- A step was made that writes nothing. It asked the store for these names, it stands in one of these files or where it stood,
-- and it gave something, or stopped for a cause
pub record TookAmong {T : Type 0} (names : List (List ℕ)) (files : List ReadFile) (step : Step T) (result : Result T Stop)
    (old new : Outside) : Type 0 where
  pub later : IsLater old new
  pub silent : new.sink ≡ old.sink
  pub asked : Asks names result old.store new.store
  pub place : StandsAmong files old.store new.store
  pub gives : IfOk result step.gives
  pub stops : IfErr result (StepStops step)
  pub counted : IfErr result (λ stop. IsCounted ⊥ stop old new)

-- the names are those of files whose limits go by no machine
abbrev pub Took : {T : Type 0} → (names : List (List ℕ)) → Step T → Result T Stop → (old new : Outside) → Type 0
Took names step result old new = TookAmong names (map plain_file names) step result old new

-- A line was written at one go, or why it wasn't
pub record Puts {T : Type 0} (line : List ℕ) (result : Result T Stop) (old new : SinkState) : Type 0 where
  pub kind : new.can_lack ≡ old.can_lack
  pub later : old.failures ≤ new.failures
  pub wrote : OnOk result (Wrote old.written new.written line)
  pub stops : IfErr result (λ stop. WriteStops line stop old new)

-- The steps of a course were made, to the end or to a stop: these names were asked of the store, and this of the rig. `words` is
-- what wrong words need
pub record Follows {T : Type 0} (words : Type 0) (names : List (List ℕ)) (asks : Type 0) (course : Course) (result : Result T Stop)
    (old new : Outside) : Type 0 where
  pub later : IsLater old new
  pub asked : Asks names result old.store new.store
  pub machines : asks
  pub written : IsWritten course result old.sink new.sink
  pub counted : IfErr result (λ stop. IsCounted words stop old new)
