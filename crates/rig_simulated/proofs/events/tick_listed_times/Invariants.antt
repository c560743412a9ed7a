use Rattle.rig_simulated.proofs.Vocabulary.{tables_of, HasComeIfKept}
use Rattle.rig_simulated.proofs.SoFar.{AreTickedListed}
use Rattle.rig_simulated.proofs.events.tick_listed_times.Given as goal

abbrev pub invariant-ticks : goal.invariant-ticks
invariant-ticks l = AreTickedListed (tables_of l.frame.faults.now.shape) l.frame.faults.now.faults l.frame.knots.now l.frame.low_pins.now l.low_tables l.fn.gates l.gates l.fn.events l.events l.n × HasComeIfKept l.frame.faults.now.faults l.frame.knots.now l.frame.low_pins.now l.fn.gates l.past l.n l.gates
