use Rattle.design_flatten.proofs.Vocabulary.{◌≡◌, ◌++◌, map, take, piece_line, line_in}
use Rattle.design_flatten.proofs.ordered.push_pieces.Given as goal

abbrev pub invariant-pieces : goal.invariant-pieces
invariant-pieces l = map line_in l.lines.items ≡ map line_in l.fn.lines.items ++ map piece_line (take l.piece-index l.pieces)
