use Rattle.std.proofs.Common.{◌≡◌, ◌∙◌, ◌++◌, ap, refl, map}
use Rattle.design_flatten.specs.Vocabulary.{number_of_line, input_line, output_line, piece_line, in_order, line_in}
use Rattle.design_flatten.proofs.ordered.in_order.Goals as goal

pub returns : goal.returns
returns c =
    let m = c.args.model.now in
    let lists : map line_in c.push_pieces.new.lines.items ≡ map input_line m.inputs ++ map output_line m.outputs ++ map piece_line m.pieces =
    c.in_ok-push_pieces.ensures
    ∙ rw (c.in_ok-push_outputs.ensures, c.in_ok-push_inputs.ensures, c.new-lines.ensures.items, c.as_slice.ensures, c.as_slice-2.ensures, c.as_slice-3.ensures) refl in
    c.in_ok-sort.ensures ∙ ap (in_order number_of_line) lists
