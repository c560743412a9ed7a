use Rattle.diag_check.proofs.Vocabulary.{◌≢◌, ℕ, ◌<◌, ◌≡◌, Some, slice_get, Wire}
use Rattle.diag_check.proofs.picks.is_among.Given as goal

abbrev pub invariant-wires : goal.invariant-wires
invariant-wires l = (k : ℕ) (u : Wire) → k < l.j → slice_get l.wires.items k ≡ Some u → u.0 ≢ l.wire.0
