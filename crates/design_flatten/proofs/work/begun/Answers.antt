use Rattle.design_flatten.proofs.Vocabulary.{◌≡◌, ◌∙◌, [], refl, ap, sym, subst, Model, IsSink, first_model, lean_models}
use Rattle.design_flatten.proofs.{LeanLemmas.lean_first, WorkLemmas.first_origin}
use Rattle.design_flatten.proofs.work.begun.Goals as goal

pub returns-clause-sink : goal.returns-clause-sink
returns-clause-sink c =
    let ms = c.args.bodies.now.models.now in
    let names = c.requires.names ∙ sym (ap (λ (m : Model). m.names) (lean_first ms ms)) in
    subst (λ ns. IsSink ns [] c.in_ok-sink.sink) names c.in_ok-sink.ensures

pub returns-clause-count : goal.returns-clause-count
returns-clause-count c = rw (c.in_ok-push.ensures.items, c.new-origins.ensures.items) refl

pub returns-clause-origins : goal.returns-clause-origins
returns-clause-origins c =
    let ms = c.args.bodies.now.models.now in
    let names = c.requires.names ∙ sym (ap (λ (m : Model). m.names) (lean_first ms ms)) in
    rw (c.in_ok-push.ensures.items, c.new-origins.ensures.items) (first_origin (lean_models ms) _ names)
