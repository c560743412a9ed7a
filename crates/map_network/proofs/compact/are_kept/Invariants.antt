use Rattle.map_network.proofs.Vocabulary.{ℕ, ◌<◌, get_or, Input, IsKept}
use Rattle.map_network.proofs.compact.are_kept.Given as goal

abbrev pub invariant-sources : goal.invariant-sources
invariant-sources l = (m : ℕ) → m < l.k → IsKept l.dropped (get_or l.sources m (Input 0))
