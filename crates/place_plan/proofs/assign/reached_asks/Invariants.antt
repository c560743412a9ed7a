use Rattle.place_plan.proofs.Vocabulary.{◌≡◌, ◌==◌, filter, list_any, range_with_len}
use Rattle.place_plan.proofs.assign.reached_asks.Given as goal

abbrev pub invariant-loop-k : goal.invariant-loop-k
invariant-loop-k l = l.set.items ≡ filter (λ n. list_any (λ s. s.ask == n) l.steps) (range_with_len 0 l.k)
