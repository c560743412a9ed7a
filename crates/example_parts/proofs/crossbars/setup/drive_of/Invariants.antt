use Rattle.example_parts.proofs.Vocabulary.{◌≡◌, length, pins_of}
use Rattle.example_parts.proofs.crossbars.setup.drive_of.Given as goal

abbrev pub invariant-pins : goal.invariant-pins
invariant-pins l = length l.drive ≡ pins_of l.shape
