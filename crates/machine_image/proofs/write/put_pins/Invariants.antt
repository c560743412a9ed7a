use Rattle.machine_image.proofs.Vocabulary.{◌≡◌, ◌++◌, take, flat_map, two}
use Rattle.machine_image.proofs.write.put_pins.Given as goal

abbrev pub invariant-pins : goal.invariant-pins
invariant-pins l = l.out.items ≡ l.initial.out.items ++ flat_map two (take l.i l.pins)
