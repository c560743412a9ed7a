use Rattle.map_network.proofs.Vocabulary.{◌≡◌, map, take, source_in}
use Rattle.map_network.proofs.covers.sources_of.Given as goal

abbrev pub invariant-names : goal.invariant-names
invariant-names l = l.ins ≡ map (source_in l.sources) (take l.k l.names)
