use Rattle.design_flatten.proofs.Vocabulary.{◌≡◌, ◌∙◌, ap, refl, map, number_of_line, piece_line, in_order, line_in}
use Rattle.design_flatten.proofs.ordered.pieces_in_order.Goals as goal

pub returns : goal.returns
returns c =
    let lists : map line_in c.push_pieces.new.lines.items ≡ map piece_line c.args.model.now.pieces =
    c.in_ok-push_pieces.ensures ∙ rw (c.new-lines.ensures.items, c.as_slice.ensures) refl in
    c.in_ok-sort.ensures ∙ ap (in_order number_of_line) lists
