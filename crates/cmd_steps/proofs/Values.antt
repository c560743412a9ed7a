-- Steps that touch nothing: a value is made, or it isn't.
use Rattle.cmd_steps.proofs.Vocabulary.{[], refl, Result, Ok, Err, Outside, Course, Step, after, Took, Follows, Memory, Stop, Refused}
use Rattle.cmd_steps.proofs.Taking.{took-lacks, step-stops, step-gives}

module _ {T U : Type 0} {step : Step T} {here : Type 0} {rest : T → Course} {o : Outside} where
  pub value-stops : {stop : Stop} → Took [] step (Err stop) o o → here →
      Follows {T = U} ⊥ [] (Unit {0}) (after step here rest) (Err stop) o o
  value-stops {stop} took at = step-stops step here rest step [] [] (Unit {0}) stop (Err stop) o o refl took took.stops at tt

  -- memory was lacking for what is made of it
  pub value-lacks : {x : T} → Took [] step (Ok x) o o → step.stops Memory → here →
      Follows {T = U} ⊥ [] (Unit {0}) (after step here rest) (Err (Refused Memory)) o o
  value-lacks {x} took stops at = value-stops (took-lacks step step [] x o o took stops) at

  -- the rest is of the value
  pub value-gives : {x : T} {result : Result U Stop} {new : Outside} → Took [] step (Ok x) o o →
      Follows ⊥ [] (Unit {0}) (rest x) result o new → Follows ⊥ [] (Unit {0}) (after step here rest) result o new
  value-gives {x} {result} {new} took is =
      step-gives step here rest step [] [] (Unit {0}) (Unit {0}) x x result o o new took took.gives is tt
