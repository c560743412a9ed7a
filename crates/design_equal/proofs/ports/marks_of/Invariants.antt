use Rattle.design_equal.proofs.Vocabulary.{◌≡◌, ◌<◌, ℕ, length, true, signal_at, bit_at}
use Rattle.design_equal.proofs.ports.marks_of.Given as goal

abbrev pub invariant-words : goal.invariant-words
invariant-words l = (length l.marks.items ≡ l.count) × ((s : ℕ) → bit_at l.marks.items s ≡ true → (j : ℕ) × (j < l.k) × (signal_at l.words j ≡ s))
