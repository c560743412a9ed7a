use Rattle.design_flatten.proofs.Vocabulary.{◌≡◌, [], take, flat_map, with_names, names_on, AreRightMarks}
use Rattle.design_flatten.proofs.needs.names_within.Given as goal

abbrev pub invariant-pieces : goal.invariant-pieces
invariant-pieces l =
    (l.marked.names.now ≡ l.model.names) × AreRightMarks l.marked
    × (l.marked.set ≡ with_names [] (flat_map (names_on l.model.names) (take l.piece-index l.pieces)))
