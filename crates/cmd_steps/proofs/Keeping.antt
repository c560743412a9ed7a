-- Steps that leave the machine as it is.
use Rattle.cmd_steps.proofs.Vocabulary.{◌≡◌, List, ℕ, [], refl, ◌∙◌, Result, Ok, Err, StoreState, SinkState, RigState, Stop}
use Rattle.cmd_steps.specs.Vocabulary.{Outside, outside, Course, Step, after, write, done, StepStops, Took, Puts, Follows}
use Rattle.cmd_steps.proofs.Reading.{line-last}
use Rattle.cmd_steps.proofs.Taking.{step-stops, step-gives}

module _ {T U : Type 0} (step : Step T) (here : Type 0) (rest : T → Course) where
  -- what stops the step as it was made stops it in the course
  pub kept-stops : {V : Type 0} (made : Step V) (stop : Stop) (result : Result U Stop) (old new : Outside) → result ≡ Err stop → Took [] made (Err stop) old new → (StepStops made stop → StepStops step stop) → here → new.rig.machine ≡ old.rig.machine → Follows ⊥ [] (new.rig.machine ≡ old.rig.machine) (after step here rest) result old new
  kept-stops made stop result old new is took stops at same = step-stops step here rest made [] [] (new.rig.machine ≡ old.rig.machine) stop result old new is took (stops took.stops) at same

  -- and so what it gives
  pub kept-gives : {V : Type 0} (made : Step V) (y : V) (x : T) (result : Result U Stop) (old mid new : Outside) → Took [] made (Ok y) old mid → (made.gives y → step.gives x) → mid.rig.machine ≡ old.rig.machine → Follows ⊥ [] (new.rig.machine ≡ mid.rig.machine) (rest x) result mid new → Follows ⊥ [] (new.rig.machine ≡ old.rig.machine) (after step here rest) result old new
  kept-gives made y x result old mid new took gives same rest_is =
      step-gives step here rest made [] [] (new.rig.machine ≡ old.rig.machine) (new.rig.machine ≡ mid.rig.machine) y x result old mid new took (gives took.gives) rest_is (rest_is.machines ∙ same)

-- the line that is written last
pub line-kept : (line : List ℕ) (here : Type 0) (store : StoreState) (rig : RigState) (a b : SinkState) (result : Result (Unit {0}) Stop) → Puts line result a b → here → Follows ⊥ [] (rig.machine ≡ rig.machine) (write line here (done here)) result (outside store rig a) (outside store rig b)
line-kept line here store rig a b result puts at =
    let last = line-last line here store rig a b result puts at in
    record { later = last.later; asked = last.asked; machines = refl; written = last.written; counted = last.counted }
