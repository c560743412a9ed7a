use Rattle.design_eval.proofs.Vocabulary.{◌≡◌, ◌<◌, ℕ, take, length, turn_at, places, IsTurn}
use Rattle.design_eval.proofs.turns.turns_of.Given as goal

abbrev pub invariant-order : goal.invariant-order
invariant-order l = (length l.turns.items ≡ l.k) × (places l.turns.items ≡ take l.k l.order) × ((j : ℕ) → j < l.k → IsTurn l.covers (turn_at l.turns.items j))
