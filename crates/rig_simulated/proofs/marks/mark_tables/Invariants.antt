use Rattle.rig_simulated.specs.Gates.{IsPulledBy, AreMarkedToo}
use Rattle.rig_simulated.proofs.marks.mark_tables.Given as goal

abbrev pub invariant-gates : goal.invariant-gates
invariant-gates l = AreMarkedToo l.fn.low l.low (IsPulledBy l.gates l.i)
