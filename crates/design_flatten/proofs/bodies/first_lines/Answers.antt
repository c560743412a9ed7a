use Rattle.design_flatten.proofs.Vocabulary.{◌≡◌, sym, subst, map, IfOk, ordered_lines, line_in}
use Rattle.design_flatten.proofs.FrameLemmas.{first_found}
use Rattle.design_flatten.proofs.bodies.first_lines.Goals as goal

pub returns-in-Some : goal.returns-in-Some
returns-in-Some c =
    subst (λ m. IfOk c.in_order.result (λ v. map line_in v.items ≡ ordered_lines m)) (sym (first_found c.args.models.now c.in-Some.model.now c.in-Some.ensures.value)) c.in_order.ensures
