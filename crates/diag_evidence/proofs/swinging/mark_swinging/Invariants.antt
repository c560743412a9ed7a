use Rattle.diag_evidence.proofs.Vocabulary.{◌≡◌, ◌&&◌, ◌||◌, ℕ, length, nat_lt, has_number, hangs_swinging}
use Rattle.diag_evidence.proofs.swinging.mark_swinging.Given as goal

abbrev pub invariant-wires : goal.invariant-wires
invariant-wires l = record {
  marked : (u : ℕ) → has_number l.wires u ≡ ((nat_lt u l.w && hangs_swinging l.forest l.reads.rows u) || has_number l.fn.wires u);
  len : length l.wires ≡ length l.fn.wires;
}
