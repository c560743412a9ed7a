use Rattle.diag_known.proofs.Vocabulary.{◌≡◌, ◌<◌, ◌≤◌, ℕ, length, not, false, has_number}
use Rattle.diag_known.proofs.marks.wires_outside.Given as goal

abbrev pub invariant-wires : goal.invariant-wires
invariant-wires l = record {
  len : length l.set ≡ length l.wires;
  turned : (i : ℕ) → i < l.w → has_number l.set i ≡ not (has_number l.wires i);
  rest : (i : ℕ) → l.w ≤ i → has_number l.set i ≡ false;
}
