use Rattle.design_equal.proofs.Vocabulary.{◌<◌, ℕ, node_of, label_at}
use Rattle.design_equal.proofs.ports.are_within.Given as goal

abbrev pub invariant-labels : goal.invariant-labels
invariant-labels l = (s : ℕ) → s < l.k → node_of (label_at l.labels s) < l.count
