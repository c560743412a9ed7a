use Rattle.design_equal.proofs.Vocabulary.{◌<◌, ℕ, latch_at, IsLatchOf}
use Rattle.design_equal.proofs.ports.have_latches.Given as goal

abbrev pub invariant-latches : goal.invariant-latches
invariant-latches l = (j : ℕ) → j < l.k → IsLatchOf l.graph l.labels (latch_at l.latches j)
