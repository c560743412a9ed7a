use Rattle.machine_defects.proofs.Vocabulary.{◌≡◌, not, has_number, pin_wire, how_many}
use Rattle.machine_defects.proofs.counts.free_pins.Given as goal

abbrev pub invariant-pins : goal.invariant-pins
invariant-pins l = l.count ≡ how_many (λ i. not (has_number l.wires (pin_wire l.shape i))) l.i
