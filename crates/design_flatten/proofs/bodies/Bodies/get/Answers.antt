use Rattle.design_flatten.proofs.Vocabulary.{refl, sym, subst, model_named, IsBodyOf}
use Rattle.design_flatten.proofs.BodyLemmas.{body_found}
use Rattle.design_flatten.proofs.bodies.Bodies.get.Goals as goal

pub returns : goal.returns
returns c =
    let ms = c.args.self.now.models.now in
    let w = c.args.name.now in
    subst (λ b. IsBodyOf ms (model_named ms w) b.now) (sym c.unwrap_or.ensures) (body_found ms c.args.self.now c.requires w _ _ c.kept_at.ensures refl)
