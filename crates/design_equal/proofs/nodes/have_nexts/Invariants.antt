use Rattle.design_equal.proofs.Vocabulary.{◌<◌, ℕ, graph_latch_at, node_count, node_of}
use Rattle.design_equal.proofs.nodes.have_nexts.Given as goal

abbrev pub invariant-latches : goal.invariant-latches
invariant-latches l = (j : ℕ) → j < l.k → node_of (graph_latch_at l.graph j).next < node_count l.graph
