use Rattle.diag_evidence.proofs.Vocabulary.{◌≡◌, ◌≢◌, ◌<◌, ℕ, true, has_number}
use Rattle.diag_evidence.proofs.trials.has_all.Given as goal

abbrev pub invariant-wires : goal.invariant-wires
invariant-wires l = (u : ℕ) → u < l.w → has_number l.set u ≡ true → u ≢ l.wire → has_number l.row u ≡ true
