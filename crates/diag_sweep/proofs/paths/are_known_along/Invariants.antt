use Rattle.diag_sweep.proofs.Vocabulary.{◌≡◌, ℕ, true, take, among, wires_of_leads, HasWire}
use Rattle.diag_sweep.proofs.paths.are_known_along.Given as goal

abbrev pub invariant-leads : goal.invariant-leads
invariant-leads l = (w : ℕ) → among (wires_of_leads (take l.k l.leads)) w ≡ true → HasWire l.known.steps w
