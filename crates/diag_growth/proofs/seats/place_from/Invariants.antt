use Rattle.diag_growth.proofs.Vocabulary.{◌≡◌, ◌<◌, ℕ, Some, slice_get, IsPlaceAt, Out}
use Rattle.diag_growth.proofs.seats.place_from.Given as goal

abbrev pub invariant-lines : goal.invariant-lines
invariant-lines l = record {
  none : (j : ℕ) (o : Out) → j < l.k → slice_get l.outs.items j ≡ Some o → ¬ IsPlaceAt l.facts l.known.steps l.without.steps l.t.0 l.hub.port.0 o.line.0;
}
