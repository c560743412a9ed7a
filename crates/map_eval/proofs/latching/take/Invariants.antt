use Rattle.map_eval.proofs.LatchLemmas.{AreTakenTo}
use Rattle.map_eval.proofs.latching.take.Given as goal

abbrev pub invariant-words : goal.invariant-words
invariant-words l = AreTakenTo l.plan l.fn.state l.state l.word l.due
