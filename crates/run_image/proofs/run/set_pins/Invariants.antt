use Rattle.run_image.proofs.Vocabulary.{◌≡◌, drop, length, driven}
use Rattle.run_image.proofs.run.set_pins.Given as goal

abbrev pub invariant-places : goal.invariant-places
invariant-places l = record {
  rest : driven (drop l.k l.pins) (drop l.k l.vector) l.drive ≡ driven l.pins l.vector l.fn.drive;
  length_is : length l.drive ≡ length l.fn.drive;
}
