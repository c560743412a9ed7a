use Rattle.design_eval.proofs.Vocabulary.{◌≡◌, ◌<◌, ℕ, length, cover_at, turn_at, quick_at, IsQuick}
use Rattle.design_eval.proofs.smalls.quick_turns.Given as goal

abbrev pub invariant-turns : goal.invariant-turns
invariant-turns l = (length l.quicks.items ≡ l.k) × ((j : ℕ) → j < l.k → IsQuick (cover_at l.covers (turn_at l.turns j).place) (quick_at l.quicks.items j))
