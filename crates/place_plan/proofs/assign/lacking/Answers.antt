use Rattle.std.proofs.Common.{◌≡◌, ◌==◌, ◌<◌, length, count_by, sym, subst, ap, ◌∙◌, rules}
use Rattle.place_plan.proofs.Vocabulary.{All-filter, All, filter, list_any, range_with_len, serves_by, serves_any}
use Rattle.place_plan.proofs.{Ranges.range_up, Ranges.range_all, Stuck.short_set}
use Rattle.place_plan.proofs.assign.lacking.Goals as goal

pub count_served-have-requires-clause-set : goal.count_served-have-requires-clause-set
count_served-have-requires-clause-set c =
    let e : c.deref.result.now ≡ filter (λ n. list_any (λ s. s.ask == n) c.args.steps.now) (range_with_len 0 (length c.args.asks.now)) = c.deref.ensures.value ∙ (c.in_ok-set.ensures {u = tt}) in
    subst (All (λ n. n < length c.args.asks.now)) (sym e) (All-filter (λ n. list_any (λ s. s.ask == n) c.args.steps.now) (λ n. n < length c.args.asks.now) (range_with_len 0 (length c.args.asks.now)) (range_all (length c.args.asks.now)))

pub returns : goal.returns
returns c = λ done owners ask is dead new all apart.
    let need : c.len-need.result ≡ length c.in_ok-set.set.items = search rules in
    short_set _ _ done _ owners ask _ is dead new all (range_up (length c.args.asks.now)) apart _ (c.in_ok-set.ensures {u = tt}) _ _ need
    (c.count_served-have.ensures ∙ ap (λ z. count_by (serves_any (serves_by c.args.defects.now c.args.asks.now) z) c.args.lines.now) c.deref.ensures.value)
