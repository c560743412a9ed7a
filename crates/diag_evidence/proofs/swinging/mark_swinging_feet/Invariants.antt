use Rattle.diag_evidence.proofs.Vocabulary.{◌≡◌, ◌&&◌, ◌||◌, ℕ, length, take, ◌==◌, list_any, has_number, pin_at, swings}
use Rattle.diag_evidence.proofs.swinging.mark_swinging_feet.Given as goal

abbrev pub invariant-feet : goal.invariant-feet
invariant-feet l = record {
  marked : (w : ℕ) → has_number l.wires w ≡ (list_any (λ foot. (foot.0.0 == w) && swings l.reads.rows (pin_at l.forest foot)) (take l.k l.feet) || has_number l.fn.wires w);
  len : length l.wires ≡ length l.fn.wires;
}
