use Rattle.design_flatten.proofs.Vocabulary.{◌≡◌, map, take, filter, is_among}
use Rattle.design_flatten.proofs.bodies.pairs_among.Given as goal

abbrev pub invariant-pairs : goal.invariant-pairs
invariant-pairs l = map (λ p. p.now) l.needed.items ≡ filter (λ p. is_among l.names p.formal) (take l.pair-index l.pairs)
