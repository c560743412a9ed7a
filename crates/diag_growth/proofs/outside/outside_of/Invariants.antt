use Rattle.diag_growth.proofs.Vocabulary.{◌≡◌, length, wires_of}
use Rattle.diag_growth.proofs.Outsides.{AreOutsideUpTo}
use Rattle.diag_growth.proofs.outside.outside_of.Given as goal

abbrev pub invariant-places : goal.invariant-places
invariant-places l = record {
  len : length l.set ≡ wires_of l.known.shape;
  are : AreOutsideUpTo l.known l.hextant.0 l.place l.set;
}
