use Rattle.diag_evidence.proofs.Vocabulary.{◌≡◌, ℕ, length, take, ◌||◌, has_number, among}
use Rattle.diag_evidence.proofs.facts.mark_wires.Given as goal

abbrev pub invariant-wires : goal.invariant-wires
invariant-wires l = record {
  marked : (w : ℕ) → has_number l.wires w ≡ (among (take l.k l.route.wires) w || has_number l.fn.wires w);
  len_is : length l.wires ≡ length l.fn.wires;
}
