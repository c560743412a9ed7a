use Rattle.design_equal.proofs.Vocabulary.{◌<◌, ◌+◌, ℕ, and_at, first_and, node_of}
use Rattle.design_equal.proofs.nodes.are_ordered.Given as goal

abbrev pub invariant-ands : goal.invariant-ands
invariant-ands l = (j : ℕ) → j < l.k → (node_of (and_at l.graph j).left < first_and l.graph + j) × (node_of (and_at l.graph j).right < first_and l.graph + j)
