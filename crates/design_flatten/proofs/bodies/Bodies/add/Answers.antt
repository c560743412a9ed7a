use Rattle.design_flatten.proofs.Vocabulary.{◌≡◌, ◌∙◌, ◌++◌, ◌∷◌, [], None, Some, is_some, ap, sym, subst, cond, bytes_eq}
use Rattle.design_flatten.specs.Bodies.{body_at, IsBodyAt}
use Rattle.design_flatten.proofs.{UseLemmas.absent_key, BodyLemmas.body_stays, BodyLemmas.body_added, BodyLemmas.other_name}
use Rattle.design_flatten.proofs.bodies.Bodies.add.Goals as goal

pub returns-then-contains_key-clause-added : goal.returns-then-contains_key-clause-added
returns-then-contains_key-clause-added c these w h =
    let at = body_at c.args.self.now in
    body_stays c.args.catalog.now.models.now these c.args.model.now w (at w) h (λ none.
    other_name at c.args.model.now.name w (ap (λ v. is_some (at v)) (sym c.as_slice-name.ensures) ∙ sym c.contains_key.ensures ∙ c.if-contains_key.true) none)

pub returns-clause-added : goal.returns-clause-added
returns-clause-added c these w h =
    let ms = c.args.catalog.now.models.now in
    let m = c.args.model.now in
    let at = body_at c.args.self.now in
    let b = c.in_ok-body.body in
    let none : at m.name ≡ None = ap at (sym c.as_slice-name.ensures) ∙ absent_key (at c.as_slice-name.result.now) (sym c.contains_key.ensures ∙ c.if-contains_key.false) in
    let put = c.in_ok-insert.ensures.updates.0 (record c.as_slice-name.result { now = w }) in
    subst (IsBodyAt ms (these ++ m ∷ []) w) (sym (put ∙ (λ i. cond (bytes_eq (c.as_slice-name.ensures i) w) (Some b) (at w))))
    (body_added ms these m at w b none c.in_ok-body.ensures h)
