use Rattle.std.proofs.Common.{refl}
use Rattle.rig_simulated.proofs.{Pulling.plain, Eventing.sound_given, Eventing.inputs_listed}
use Rattle.rig_simulated.proofs.events.flip_one.Goals as goal

pub returns-then-level_at-before-clause-sound : goal.returns-then-level_at-before-clause-sound
returns-then-level_at-before-clause-sound c =
    sound_given c.args.flip.place c.args.flip.output c.args.gates.now c.give.new.gates c.args.events.now.readers c.args.events.now.queue c.args.events.now.queue c.give.new.pulls.items c.args.events.now.pulls.items c.args.low_tables.now c.give.new.low
    c.requires.place c.give.ensures.gates c.requires.sound c.requires.sound.queue refl c.give.ensures.len c.give.ensures.counted

pub returns-clause-sound : goal.returns-clause-sound
returns-clause-sound c =
    sound_given c.args.flip.place c.args.flip.output c.args.gates.now c.give.new.gates c.args.events.now.readers c.args.events.now.queue c.add_readers.new.queue c.give.new.pulls.items c.args.events.now.pulls.items c.args.low_tables.now c.give.new.low
    c.requires.place c.give.ensures.gates c.requires.sound c.add_readers.ensures.queue c.add_readers.ensures.len c.give.ensures.len c.give.ensures.counted

pub returns-clause-inputs : goal.returns-clause-inputs
returns-clause-inputs c =
    inputs_listed c.args.gates.now c.args.flip.place _ plain c.add_readers.new.queue.marks.items c.args.frame.now.knots.now c.args.frame.now.low_pins.now c.args.low_tables.now c.give.new.low refl c.give.ensures.others
    c.args.events.now.readers c.requires.sound.readers c.add_readers.ensures.marked
