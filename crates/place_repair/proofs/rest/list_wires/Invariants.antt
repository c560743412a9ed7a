use Rattle.place_repair.specs.Making.{IsWireRest}
use Rattle.place_repair.proofs.rest.list_wires.Given as goal

abbrev pub invariant-loop-w : goal.invariant-loop-w
invariant-loop-w l = IsWireRest l.defects.list l.config.config l.plan l.w l.rest
