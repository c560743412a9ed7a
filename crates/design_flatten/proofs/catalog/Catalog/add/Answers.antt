use Rattle.design_flatten.proofs.Vocabulary.{looked_up, known_of, ◌≡◌, None, ap, sym, ◌∙◌, Some, cond, bytes_eq}
use Rattle.design_flatten.proofs.UseLemmas.{added_lookup, absent_key}
use Rattle.design_flatten.proofs.catalog.Catalog.add.Goals as goal

pub returns-clause-added : goal.returns-clause-added
returns-clause-added c w =
    let name = c.args.model.now.name in
    let none : looked_up c.args.self.now name ≡ None = ap (looked_up c.args.self.now) (sym c.as_slice-name.ensures) ∙ absent_key (looked_up c.args.self.now c.as_slice-name.result.now) (sym c.contains_key.ensures ∙ c.if-contains_key.false) in
    let same : c.in_ok-known.known ≡ known_of c.args.model = c.in_ok-known.ensures in
    let put = c.in_ok-insert.ensures.updates.0 (record c.as_slice-name.result { now = w }) in
    added_lookup (looked_up c.args.self.now) _ name w (known_of c.args.model) none
    (put ∙ (λ i. cond (bytes_eq (c.as_slice-name.ensures i) w) (Some (same i)) (looked_up c.args.self.now w)))
