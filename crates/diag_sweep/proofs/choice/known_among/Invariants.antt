use Rattle.diag_sweep.proofs.Vocabulary.{◌≡◌, ℕ, length, wires_of, HasWire, InSet}
use Rattle.diag_sweep.proofs.choice.known_among.Given as goal

abbrev pub invariant-places : goal.invariant-places
invariant-places l = record {
  len : length l.set ≡ wires_of l.known.shape;
  known : (w : ℕ) → InSet l.set w → HasWire l.known.steps w;
}
