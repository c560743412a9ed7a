use Rattle.diag_known.proofs.Vocabulary.{◌≡◌, ◌<◌, ℕ, Some, slice_get, IsReached, Support}
use Rattle.diag_known.proofs.offers.is_hung.Given as goal

abbrev pub invariant-links : goal.invariant-links
invariant-links l = (j : ℕ) (a : Support) → j < l.k → slice_get l.links j ≡ Some a → ¬ IsReached l.reaches.items a.wire.0
