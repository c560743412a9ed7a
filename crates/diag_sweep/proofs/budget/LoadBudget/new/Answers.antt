use Rattle.diag_sweep.proofs.Vocabulary.{◌∙◌, ◌+◌, ◌≤◌, ap, sym, subst, Shape, pins_in}
use Rattle.diag_sweep.proofs.Budgets.{funded_first}
use Rattle.diag_sweep.proofs.budget.LoadBudget.new.Goals as goal

pub returns-clause-funded : goal.returns-clause-funded
returns-clause-funded g c =
    let pins = pins_in c.args.facts.now.shape c.args.field.now in
    let low = subst (λ n. n ≤ c.sum_of.result) c.loads_of.ensures c.sum_of.ensures.low in
    let high = subst (λ n. c.sum_of.result ≤ n + pins) c.loads_of.ensures (subst (λ p. c.sum_of.result ≤ c.loads_of.result + p) (c.pins_of_field-pins.ensures ∙ ap (λ (m : Shape). pins_in m c.args.field.now) c.shape.ensures) c.sum_of.ensures.high) in
    λ known. funded_first {b = c.args.bad.now} {a = c.args.field.now} pins known (c.in_ok-undecided_in.ensures.len ∙ sym c.requires.field.crosses) c.in_ok-undecided_in.ensures.has low high
