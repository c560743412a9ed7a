use Rattle.diag_evidence.proofs.Vocabulary.{◌≡◌, ◌<◌, ◌∙◌, Some, unwrap_or, subst, sym, ap, refl, arith, pins_of, other_end, pin_of, pin_at}
use Rattle.diag_evidence.proofs.Footing.{foot_below}
use Rattle.diag_evidence.proofs.feet.pin_at.Goals as goal

pub returns-clause-within : goal.returns-clause-within
returns-clause-within c =
    let trees = c.args.forest.now in
    let end : c.far_end-end.result.0 ≡ other_end trees.shape c.args.foot.1.0 c.args.foot.0.0 = c.far_end-end.ensures.end ∙ ap (λ m. other_end m c.args.foot.1.0 c.args.foot.0.0) c.shape.ensures.shape in
    let is : c.unwrap_or.result ≡ pin_at trees c.args.foot = c.unwrap_or.ensures ∙ ap (λ o. unwrap_or o 0) (c.pin_of.ensures ∙ ap (pin_of trees) end) in
    subst (λ p. p < pins_of trees.shape) (sym is) (foot_below trees c.args.foot c.shape.ensures.forest c.requires)
