use Rattle.map_network.proofs.Vocabulary.{◌≡◌, ◌≤◌, ◌+◌, ◌*◌, ◌++◌, take, map, length, distinct, number}
use Rattle.map_network.proofs.NameLemmas.{without}
use Rattle.map_network.proofs.joining.together.Given as goal

abbrev pub invariant-both : goal.invariant-both
invariant-both l = (map number l.sources ≡ distinct (without (2 * l.table + 1) (take l.k (map number (l.first ++ l.second))))) × (length l.sources ≤ 6)
