use Rattle.design_flatten.proofs.Vocabulary.{◌∙◌, ◌++◌, ◌∷◌, [], ap, sym, take, get_or, take_more}
use Rattle.design_flatten.proofs.MarkLemmas.{taken_next}
use Rattle.design_flatten.proofs.needs.add_actuals.Goals as goal

pub pairs-preserved : goal.pairs-preserved
pairs-preserved c =
    taken_next (λ names p. get_or names p.actual []) c.args.pairs.now c.pairs.pair-index c.pair-item.result c.args.marked.now c.pairs.marked c.add_signal.new.marked
    (take_more c.args.pairs.now c.pairs.pair-index c.pair-item.result c.pairs-test.true ∙ ap (λ p. take c.pairs.pair-index c.args.pairs.now ++ p ∷ []) (sym c.pair-item.is)) c.pairs.invariant c.in_ok-add_signal.ensures
