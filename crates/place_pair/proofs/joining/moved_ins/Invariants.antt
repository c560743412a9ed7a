use Rattle.place_pair.proofs.Vocabulary.{◌≡◌, map, take, moved}
use Rattle.place_pair.proofs.joining.moved_ins.Given as goal

abbrev pub invariant-ins : goal.invariant-ins
invariant-ins l = l.sources ≡ map (moved l.inputs l.tables) (take l.k l.ins)
