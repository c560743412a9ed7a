use Rattle.map_network.proofs.Vocabulary.{◌≡◌, map, take, named_by, renamed}
use Rattle.map_network.proofs.compact.renamed_outputs.Given as goal

abbrev pub invariant-outputs : goal.invariant-outputs
invariant-outputs l = l.given.items ≡ map (renamed (named_by l.ranks)) (take l.k l.outputs)
