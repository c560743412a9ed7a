use Rattle.rig_simulated.proofs.Tracking.{marks_of_pins}
use Rattle.rig_simulated.proofs.driving.release_pins.Goals as goal

pub clear_pins-requires-clause-only : goal.clear_pins-requires-clause-only
clear_pins-requires-clause-only c = marks_of_pins c.args.pins.now c.args.kept.now.drive c.args.low.now c.requires.driven
