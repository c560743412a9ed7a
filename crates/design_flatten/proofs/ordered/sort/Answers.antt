use Rattle.design_flatten.proofs.Vocabulary.{◌∙◌, ap, refl, rules, map, number_of_line, line_in}
use Rattle.std.proofs.lemmas.List.Sorted.{answers_always, IsNonDecreasingBy-from_sort}
use Rattle.design_flatten.proofs.OrderLemmas.{in_order-from_sort, in_order-map}
use Rattle.design_flatten.proofs.ordered.sort.Goals as goal

pub returns : goal.returns
returns c =
    let keys = answers_always _ _ _ (λ f a r next called. search rules) in
    let stable = c.sort_by_key.ensures.stable (λ o. o.number) keys in
    let sorted = c.in_ok-sort_by_key.ensures.sorted (λ o. o.number) keys in
    let is = in_order-from_sort (λ o. o.number) _ _ (IsNonDecreasingBy-from_sort (λ o. o.number) _ sorted) stable in
    ap (map line_in) is ∙ in_order-map line_in (λ o. o.number) number_of_line (λ o. refl) c.args.lines.now.items
