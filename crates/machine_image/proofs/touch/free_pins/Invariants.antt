use Rattle.machine_image.proofs.Vocabulary.{◌<◌, ℕ, get_or, pin_wire, IsFreeWire}
use Rattle.machine_image.proofs.touch.free_pins.Given as goal

abbrev pub invariant-pins : goal.invariant-pins
invariant-pins l = (j : ℕ) → j < l.i → IsFreeWire l.defects.list (pin_wire l.defects.shape (get_or l.pins j 0))
