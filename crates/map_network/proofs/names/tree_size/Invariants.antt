use Rattle.map_network.proofs.Vocabulary.{◌≡◌, ◌≤◌, ◌+◌, tree_size}
use Rattle.map_network.proofs.names.tree_size.Given as goal

abbrev pub invariant-levels : goal.invariant-levels
invariant-levels l = (l.size + tree_size l.count ≡ tree_size l.wants + 1) × (l.count ≤ l.wants)

abbrev pub decreases-levels : goal.decreases-levels
decreases-levels l = l.count
