use Rattle.rig_simulated.specs.Gates.{level_at}
use Rattle.rig_simulated.proofs.Eventing.{put_all, still_after, tick_by_counts}
use Rattle.rig_simulated.proofs.events.tick_listed.Goals as goal

pub returns-clause-still : goal.returns-clause-still
returns-clause-still c =
    let level = level_at c.args.frame.now.knots.now c.args.frame.now.low_pins.now c.args.low_tables.now in
    let put = c.flip_all.ensures.put c.args.frame.now.faults.now.faults level c.evaluate-count.ensures.flips in
    let next = put_all c.args.frame.now.faults.now.faults level c.args.gates.now c.flip_all.new.gates c.evaluate-count.new.flips.items c.evaluate-count.result c.requires.sound.queue c.flip_all.ensures.alike put c.evaluate-count.ensures.due c.requires.still in
    still_after c.args.frame.now.faults.now.faults c.args.frame.now.knots.now c.args.frame.now.low_pins.now c.args.low_tables.now c.flip_all.new.low_tables c.args.gates.now c.flip_all.new.gates c.flip_all.new.events.queue.marks.items next c.flip_all.ensures.inputs

pub returns-clause-tick : goal.returns-clause-tick
returns-clause-tick c =
    let level = level_at c.args.frame.now.knots.now c.args.frame.now.low_pins.now c.args.low_tables.now in
    let put = c.flip_all.ensures.put c.args.frame.now.faults.now.faults level c.evaluate-count.ensures.flips in
    let next = put_all c.args.frame.now.faults.now.faults level c.args.gates.now c.flip_all.new.gates c.evaluate-count.new.flips.items c.evaluate-count.result c.requires.sound.queue c.flip_all.ensures.alike put c.evaluate-count.ensures.due c.requires.still in
    tick_by_counts c.args.frame.now.faults.now.faults c.args.frame.now.knots.now c.args.frame.now.low_pins.now c.args.low_tables.now c.args.events.now.pulls.items c.args.gates.now c.flip_all.new.gates c.requires.sound.counted c.requires.sound.outs next
