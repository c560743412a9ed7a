use Rattle.std.proofs.Common.{◌∙◌, ◌+◌, ◌≤◌, sym, subst}
use Rattle.diag_sweep.proofs.Chosen.{funded_of}
use Rattle.diag_sweep.proofs.budget.LoadBudget.of.Goals as goal

pub returns-clause-funded : goal.returns-clause-funded
returns-clause-funded g c =
    let low = subst (λ n. n ≤ c.sum_of_both.result) c.loads_of.ensures c.sum_of_both.ensures.low in
    let high = subst (λ n. c.sum_of_both.result ≤ n + c.args.left) c.loads_of.ensures c.sum_of_both.ensures.high in
    λ known. funded_of {b = c.args.bad.now} {a = c.args.field.now} c.args.left known (c.in_ok-undecided_in.ensures.len ∙ sym c.requires.field.crosses) c.in_ok-undecided_in.ensures.has low high
