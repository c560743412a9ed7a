use Rattle.design_flatten.proofs.Vocabulary.{◌∙◌, ◌++◌, ◌∷◌, [], ap, sym, take, take_more, names_on}
use Rattle.design_flatten.proofs.MarkLemmas.{all_taken}
use Rattle.design_flatten.proofs.needs.names_within.Goals as goal

pub pieces-preserved : goal.pieces-preserved
pieces-preserved c = (
  ap (λ b. b.now) c.in_ok-add_piece.ensures.names ∙ c.pieces.invariant.0,
  c.in_ok-add_piece.ensures.marks c.pieces.invariant.1,
  all_taken names_on c.args.model.now.names c.as_slice-pieces.result.now c.pieces.piece-index c.piece-item.result c.pieces.marked c.add_piece.new.marked
      (take_more c.as_slice-pieces.result.now c.pieces.piece-index c.piece-item.result c.pieces-test.true ∙ ap (λ p. take c.pieces.piece-index c.as_slice-pieces.result.now ++ p ∷ []) (sym c.piece-item.is))
      c.pieces.invariant.0 c.pieces.invariant.2 c.pieces.invariant.1 c.in_ok-add_piece.ensures,
)
