use Rattle.design_eval.proofs.Vocabulary.{◌≡◌, ◌<◌, ℕ, length, number_at}
use Rattle.design_eval.proofs.block.put_columns.Given as goal

abbrev pub invariant-signals : goal.invariant-signals
invariant-signals l = (length l.words.items ≡ length l.fn.words.items) × ((s : ℕ) → ((i : ℕ) → i < l.k → number_at l.signals i ≡ s → ⊥) → number_at l.words.items s ≡ number_at l.fn.words.items s)
