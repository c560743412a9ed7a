use Rattle.diag_known.proofs.Vocabulary.{◌≡◌, ◌<◌, ℕ, Some, length, slice_get, Support}
use Rattle.diag_known.proofs.offers.known_ends.Given as goal

abbrev pub invariant-links : goal.invariant-links
invariant-links l = record {
  len : length l.ends.items ≡ l.k;
  has : (j : ℕ) (a : Support) → j < l.k → slice_get l.links j ≡ Some a → slice_get l.ends.items j ≡ Some a.wire;
}
