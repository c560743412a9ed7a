use Rattle.rig_simulated.proofs.Tracking.{AreRead}
use Rattle.rig_simulated.proofs.readings.read_pins.Given as goal

abbrev pub invariant-gates : goal.invariant-gates
invariant-gates l = AreRead l.frame.knots.now l.frame.low_pins.now l.low_tables l.gates l.pins l.i l.read
