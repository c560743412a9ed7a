use Rattle.design_eval.proofs.Vocabulary.{◌≡◌, ◌<◌, ℕ, length, IsSettledTo, lane_bits, places}
use Rattle.design_eval.proofs.word_truth.settle_words.Given as goal

abbrev pub invariant-turns : goal.invariant-turns
invariant-turns l = (length l.words.items ≡ length l.fn.words.items) × ((j : ℕ) → j < 64 → IsSettledTo l.covers (places l.turns) l.k (lane_bits l.fn.words.items j) (lane_bits l.words.items j))
