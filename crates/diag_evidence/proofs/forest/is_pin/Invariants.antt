use Rattle.diag_evidence.proofs.Vocabulary.{◌≢◌, ◌<◌, ℕ, pin_wire}
use Rattle.diag_evidence.proofs.forest.is_pin.Given as goal

abbrev pub invariant-pins : goal.invariant-pins
invariant-pins l = (j : ℕ) → j < l.k → pin_wire l.shape j ≢ l.w.0
