use Rattle.map_eval.proofs.Vocabulary.{◌≡◌, ◌/◌, ◌<◌, ℕ, false, length, is_marked}
use Rattle.map_eval.proofs.words.clear.Given as goal

abbrev pub invariant-words : goal.invariant-words
invariant-words l = (length l.marks ≡ length l.fn.marks) × ((t : ℕ) → t / 64 < l.k → is_marked l.marks t ≡ false)
