use Rattle.diag_machine.proofs.Listed.{wire_step}
use Rattle.diag_machine.proofs.list.list_wires.Goals as goal

pub wires-preserved : goal.wires-preserved
wires-preserved c = wire_step _ _ _ _ _ _ c.has.ensures.known c.has.ensures.unknown c.wire_unless.ensures.bad c.wire_unless.ensures.good c.wires.invariant
