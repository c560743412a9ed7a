use Rattle.std.proofs.Common.{◌≡◌, ◌∙◌, ◌+◌, ◌++◌, ◌∷◌, [], ap, sym, subst, map, take, take_all, arith}
use Rattle.design_flatten.proofs.Vocabulary.{take_more, Body, no_model, IsCatalog, lean_in, body_at, IsBodyOf, IsBodyAt, IsBodyAdded}
use Rattle.design_flatten.proofs.bodies.Bodies.new.Goals as goal

pub lean_lines-requires : goal.lean_lines-requires
lean_lines-requires c = subst (λ ms. IsCatalog ms c.in_ok-catalog.catalog) (sym c.in_ok-catalog.ensures.models) c.in_ok-catalog.ensures.catalog

pub add-requires : goal.add-requires
add-requires c = subst (λ ms. IsCatalog ms c.in_ok-catalog.catalog) (sym c.in_ok-catalog.ensures.models) c.in_ok-catalog.ensures.catalog

pub models-preserved : goal.models-preserved
models-preserved c =
    let ms = c.args.models.now in
    let i = c.models.model-index in
    let m = c.model-item.result in
    let more : take (i + 1) ms ≡ take i ms ++ m ∷ [] = take_more ms i m c.models-test.true ∙ ap (λ x. take i ms ++ x ∷ []) (sym c.model-item.is) in
    let added = subst (λ all. IsBodyAdded all c.models.bodies m c.add.new.self) c.in_ok-catalog.ensures.models c.in_ok-add.ensures.added in
    record {
      models = ap (λ x. x.now) c.add.ensures.models ∙ c.models.invariant.models;
      names = ap (λ (b : Body). b.names.now) c.add.ensures.first ∙ c.models.invariant.names;
      lines = ap (λ (b : Body). map lean_in b.lines.items) c.add.ensures.first ∙ c.models.invariant.lines;
      none = subst (IsBodyOf ms no_model) (sym c.add.ensures.none) c.models.invariant.none;
      named = λ w. subst (λ xs. IsBodyAt ms xs w (body_at c.add.new.self w)) (sym more) (added (take i ms) w (c.models.invariant.named w));
    }

pub returns-clause-bodies : goal.returns-clause-bodies
returns-clause-bodies c =
    let ms = c.args.models.now in
    record {
      names = c.models.invariant.names;
      lines = c.models.invariant.lines;
      none = c.models.invariant.none;
      named = λ w. subst (λ xs. IsBodyAt ms xs w (body_at c.models.bodies w)) (take_all c.models.model-index ms (omega arith)) (c.models.invariant.named w);
    }
