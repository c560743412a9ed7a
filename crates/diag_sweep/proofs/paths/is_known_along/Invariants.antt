use Rattle.diag_sweep.proofs.Vocabulary.{◌≡◌, ℕ, true, take, among, wires_along, HasWire}
use Rattle.diag_sweep.proofs.paths.is_known_along.Given as goal

abbrev pub invariant-places : goal.invariant-places
invariant-places l = (w : ℕ) → among (take l.k (wires_along l.lead)) w ≡ true → HasWire l.known.steps w
