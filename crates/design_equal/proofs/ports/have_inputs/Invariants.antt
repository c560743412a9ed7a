use Rattle.design_equal.proofs.Vocabulary.{◌≡◌, ◌<◌, ◌+◌, ◌*◌, ℕ, signal_at, label_at}
use Rattle.design_equal.proofs.ports.have_inputs.Given as goal

abbrev pub invariant-inputs : goal.invariant-inputs
invariant-inputs l = (j : ℕ) → j < l.k → label_at l.labels (signal_at l.inputs j) ≡ 2 * (1 + j)
