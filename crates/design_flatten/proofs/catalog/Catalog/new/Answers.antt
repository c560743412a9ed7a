use Rattle.std.proofs.Common.{◌≡◌, ◌∙◌, ◌+◌, ◌++◌, ◌∷◌, [], ap, sym, subst, take, take_all, arith}
use Rattle.design_flatten.proofs.Vocabulary.{take_more, looked_up, IsKnown}
use Rattle.design_flatten.proofs.UseLemmas.{known_more}
use Rattle.design_flatten.proofs.catalog.Catalog.new.Goals as goal

pub models-preserved : goal.models-preserved
models-preserved c =
    let ms = c.args.models.now in
    let i = c.models.model-index in
    let more : take (i + 1) ms ≡ take i ms ++ c.model-item.result ∷ [] = take_more ms i c.model-item.result c.models-test.true ∙ ap (λ m. take i ms ++ m ∷ []) (sym c.model-item.is) in
    record {
      models = ap (λ m. m.now) c.add.ensures.models ∙ c.models.invariant.models;
      catalog = λ w. subst (λ xs. IsKnown xs w (looked_up c.add.new.self w)) (sym more) (subst (IsKnown (take i ms ++ c.model-item.result ∷ []) w) (sym (c.in_ok-add.ensures.added w)) (known_more (take i ms) _ w (looked_up c.models.catalog w) (c.models.invariant.catalog w)));
    }

pub returns-clause-catalog : goal.returns-clause-catalog
returns-clause-catalog c w = subst (λ xs. IsKnown xs w (looked_up c.models.catalog w)) (take_all c.models.model-index c.args.models.now (omega arith)) (c.models.invariant.catalog w)
