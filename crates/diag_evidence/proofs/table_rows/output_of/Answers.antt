use Rattle.diag_evidence.proofs.Vocabulary.{◌≡◌, ◌<◌, ℕ, Some, Option, sym, ap, ◌∙◌, subst, unwrap_or, pins_of, table_wire, pin_of}
use Rattle.diag_evidence.proofs.table_rows.output_of.Goals as goal

pub returns-clause-within : goal.returns-clause-within
returns-clause-within c = λ p h.
    let wire : c.pin_of.result.0 ≡ table_wire c.args.forest.now.shape c.args.t.0 6 = c.pin_of.ensures.wire ∙ ap (λ m. table_wire m c.args.t.0 6) c.shape.ensures.shape in
    let is : c.unwrap_or.result ≡ p = c.unwrap_or.ensures ∙ ap (λ (o : Option ℕ). unwrap_or o 0) (c.pin_of-2.ensures ∙ ap (pin_of c.args.forest.now) wire ∙ h) in
    subst (λ q. q < pins_of c.args.forest.now.shape) (sym is) (c.shape.ensures.forest.led _ p h).below
