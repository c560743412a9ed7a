use Rattle.map_network.proofs.Vocabulary.{◌≡◌, drop, map, is_among, number}
use Rattle.map_network.proofs.joining.is_in.Given as goal

abbrev pub invariant-sources : goal.invariant-sources
invariant-sources l = is_among (drop l.k (map number l.sources)) (number l.source) ≡ is_among (map number l.sources) (number l.source)
