use Rattle.diag_known.proofs.Vocabulary.{◌≡◌, ◌<◌, ℕ, Some, slice_get, Wire, IsFrom, IsOnWalk, AreTreeWalks}
use Rattle.diag_known.proofs.tour.walks.Given as goal

abbrev pub invariant-wanted : goal.invariant-wanted
invariant-wanted l = record {
  each : AreTreeWalks l.facts l.reaches.items l.routes.items;
  over : (j : ℕ) (w : Wire) (pin : ℕ) → j < l.w-index → slice_get l.wanted j ≡ Some w → IsFrom l.reaches.items pin w.0 → IsOnWalk l.routes.items w.0;
}
