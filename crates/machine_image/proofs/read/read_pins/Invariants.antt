use Rattle.machine_image.proofs.Vocabulary.{◌-◌, pins_of, AreMarks, ArePins}
use Rattle.machine_image.proofs.read.read_pins.Given as goal

abbrev pub invariant-pins : goal.invariant-pins
invariant-pins l = ArePins l.shape l.bytes l.fn.at l.at l.count (l.count - l.counter) l.pins.items × AreMarks (pins_of l.shape) l.pins.items l.marks.items
