use Rattle.diag_machine.proofs.Listed.{cross_step}
use Rattle.diag_machine.proofs.list.list_crosses.Goals as goal

pub crosses-preserved : goal.crosses-preserved
crosses-preserved c = cross_step _ _ _ _ _ _ _ c.keeps_cross.ensures c.cross_unless.ensures.bad c.cross_unless.ensures.good c.crosses.invariant
