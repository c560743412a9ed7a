use Rattle.map_eval.proofs.LatchLemmas.{IsTurning}
use Rattle.map_eval.proofs.latching.turn_word.Given as goal

abbrev pub invariant-bits : goal.invariant-bits
invariant-bits l = IsTurning l.plan l.fn.state l.state l.word l.due l.left

abbrev pub decreases-bits : goal.decreases-bits
decreases-bits l = l.left
