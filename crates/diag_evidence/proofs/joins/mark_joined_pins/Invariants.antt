use Rattle.diag_evidence.proofs.Vocabulary.{◌≡◌, ◌&&◌, ◌||◌, ℕ, length, ◌==◌, list_any, range_with_len, has_number, pin_wire, joins_alone}
use Rattle.diag_evidence.proofs.joins.mark_joined_pins.Given as goal

abbrev pub invariant-pins : goal.invariant-pins
invariant-pins l = record {
  marked : (w : ℕ) → has_number l.apart w ≡ (list_any (λ k. (pin_wire l.forest.shape k == w) && joins_alone l.forest l.reads.rows k) (range_with_len 0 l.k) || has_number l.fn.apart w);
  len_is : length l.apart ≡ length l.fn.apart;
}
