use Rattle.machine_shape.specs.Shape.{tables_of}
use Rattle.rig_simulated.proofs.SoFar.{AreTickedListed}
use Rattle.rig_simulated.proofs.events.tick_listed_on.Given as goal

abbrev pub invariant-ticks : goal.invariant-ticks
invariant-ticks l = AreTickedListed (tables_of l.frame.faults.now.shape) l.frame.faults.now.faults l.frame.knots.now l.frame.low_pins.now l.low_tables l.fn.gates l.gates l.fn.events l.events l._n
