use Rattle.place_repair.specs.Making.{IsCrossRest}
use Rattle.place_repair.proofs.rest.list_crosses.Given as goal

abbrev pub invariant-loop-x : goal.invariant-loop-x
invariant-loop-x l = IsCrossRest l.defects l.fn.rest l.x l.rest
