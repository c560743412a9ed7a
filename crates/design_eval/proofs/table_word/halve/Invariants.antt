use Rattle.design_eval.proofs.Vocabulary.{◌≡◌, ◌+◌, ◌*◌, ◌<◌, ◌≤◌, ℕ, number_at, is_bit, chosen}
use Rattle.design_eval.proofs.table_word.halve.Given as goal

abbrev pub invariant-parts : goal.invariant-parts
invariant-parts l =
    ((b j : ℕ) → b < l.a → j < 64 → is_bit (number_at l.parts b) j ≡ chosen l.choice (number_at l.fn.parts (2 * b)) (number_at l.fn.parts (2 * b + 1)) j) ×
    ((b : ℕ) → l.a ≤ b → number_at l.parts b ≡ number_at l.fn.parts b)
