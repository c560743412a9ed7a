use Rattle.std.proofs.Common.{◌≤◌, ◌∙◌, length, arith}
use Rattle.rig_simulated.proofs.Tracking.{read_more, read_whole}
use Rattle.rig_simulated.proofs.readings.read_pins.Goals as goal

pub gates-preserved : goal.gates-preserved
gates-preserved c =
    read_more c.args.frame.now.knots.now c.args.frame.now.low_pins.now c.args.low_tables.now c.args.gates.now c.args.pins.now c.gates.i _ c.gates.read c.put_level.new.read c.gates.invariant c.put_level.ensures.len
    (λ k h e. c.put_level.ensures.these k h e ∙ c.level_at-level.ensures) c.put_level.ensures.others

pub returns : goal.returns
returns c = read_whole c.args.frame.now.knots.now c.args.frame.now.low_pins.now c.args.low_tables.now c.args.gates.now c.args.pins.now c.gates.i c.gates.read c.gates.invariant c.gates-test.false c.requires.only
