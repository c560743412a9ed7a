use Rattle.diag_growth.proofs.Vocabulary.{◌≡◌, ◌<◌, ◌≤◌, ℕ, length, has_number}
use Rattle.std.proofs.Common.{false}
use Rattle.diag_growth.proofs.rest.same_wires.Given as goal

abbrev pub invariant-wires : goal.invariant-wires
invariant-wires l = record {
  len : length l.set ≡ length l.field.wires;
  same : (i : ℕ) → i < l.w → has_number l.set i ≡ has_number l.field.wires i;
  rest : (i : ℕ) → l.w ≤ i → has_number l.set i ≡ false;
}
