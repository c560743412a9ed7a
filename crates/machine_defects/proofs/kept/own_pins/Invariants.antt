use Rattle.machine_defects.proofs.Vocabulary.{◌≡◌, length, wires_of, AreOwnersBefore}
use Rattle.machine_defects.proofs.kept.own_pins.Given as goal

abbrev pub invariant-pins : goal.invariant-pins
invariant-pins l = (length l.owners ≡ wires_of l.shape) × AreOwnersBefore l.shape l.t.0 l.k l.owners
