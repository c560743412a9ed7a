use Rattle.design_equal.proofs.Vocabulary.{◌≡◌, ◌<◌, ℕ, length, cover_at, IsMet}
use Rattle.design_equal.proofs.check.are_met.Given as goal

abbrev pub invariant-covers : goal.invariant-covers
invariant-covers l = (length l.signals.items ≡ l.count) × ((i : ℕ) → i < l.k → IsMet l.graph l.labels (cover_at l.covers i))
