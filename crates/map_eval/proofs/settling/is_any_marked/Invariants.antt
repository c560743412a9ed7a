use Rattle.map_eval.proofs.Vocabulary.{◌≡◌, ◌<◌, ℕ, bit_and, number_at}
use Rattle.map_eval.proofs.settling.is_any_marked.Given as goal

abbrev pub invariant-words : goal.invariant-words
invariant-words l = l.found ≡ 0 → (w : ℕ) → w < l.word → bit_and (number_at l.marks w) (number_at l.plan.gates.items w) ≡ 0
