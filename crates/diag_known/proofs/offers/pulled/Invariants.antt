use Rattle.diag_known.proofs.Vocabulary.{◌≡◌, ◌<◌, ℕ, Some, length, true, false, slice_get, slice_index_or, pins_of, Walk}
use Rattle.diag_known.proofs.Adding.{InFirst}
use Rattle.diag_known.proofs.offers.pulled.Given as goal

abbrev pub invariant-routes : goal.invariant-routes
invariant-routes l = record {
  len : length l.drive ≡ pins_of l.fn.facts.shape;
  same : l.facts ≡ l.fn.facts;
  low : (j : ℕ) (r : Walk) → j < l.k → slice_get l.routes j ≡ Some r → slice_index_or l.drive r.pin true ≡ false;
  only : (p : ℕ) → slice_index_or l.drive p true ≡ false → InFirst l.routes l.k (λ r p. r.pin ≡ p) p;
}
