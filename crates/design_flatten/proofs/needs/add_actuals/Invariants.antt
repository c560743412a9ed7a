use Rattle.design_flatten.proofs.Vocabulary.{map, take, [], get_or, HasTaken}
use Rattle.design_flatten.proofs.needs.add_actuals.Given as goal

abbrev pub invariant-pairs : goal.invariant-pairs
invariant-pairs l = HasTaken l.fn.marked (map (λ p. get_or l.fn.marked.names.now p.actual []) (take l.pair-index l.pairs)) l.marked
