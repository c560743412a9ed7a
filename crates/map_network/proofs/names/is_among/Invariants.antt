use Rattle.map_network.proofs.Vocabulary.{◌≡◌, drop, is_among}
use Rattle.map_network.proofs.names.is_among.Given as goal

abbrev pub invariant-names : goal.invariant-names
invariant-names l = is_among (drop l.k l.names) l.name ≡ is_among l.names l.name
