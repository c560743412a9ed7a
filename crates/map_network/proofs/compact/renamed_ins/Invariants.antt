use Rattle.map_network.proofs.Vocabulary.{◌≡◌, map, take, named_by, renamed}
use Rattle.map_network.proofs.compact.renamed_ins.Given as goal

abbrev pub invariant-ins : goal.invariant-ins
invariant-ins l = l.sources ≡ map (renamed (named_by l.ranks)) (take l.k l.ins)
