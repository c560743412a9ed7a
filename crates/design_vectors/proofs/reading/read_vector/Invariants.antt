use Rattle.design_vectors.proofs.Vocabulary.{◌-◌, GoesOn}
use Rattle.design_vectors.proofs.reading.read_vector.Given as goal

abbrev pub invariant-pieces : goal.invariant-pieces
invariant-pieces g l =
    let state = g.S.Store.store_state in GoesOn l.fn.line l.fn.feed l.line l.feed (state l.fn.store) (state l.store)

abbrev pub decreases-pieces : goal.decreases-pieces
decreases-pieces g l = l.line.limit - l.line.at
