use Rattle.design_flatten.proofs.Vocabulary.{◌≡◌, ◌++◌, map, take, flat_map, use_on, use_in}
use Rattle.design_flatten.proofs.uses.push_uses.Given as goal

abbrev pub invariant-pieces : goal.invariant-pieces
invariant-pieces l = map use_in l.uses.items ≡ map use_in l.fn.uses.items ++ flat_map (use_on l.own) (take l.piece-index l.pieces)
