use Rattle.diag_evidence.proofs.Vocabulary.{◌≡◌, ◌&&◌, ◌||◌, ℕ, length, take, ◌==◌, list_any, has_number, joins}
use Rattle.diag_evidence.proofs.joins.mark_joined.Given as goal

abbrev pub invariant-hangs : goal.invariant-hangs
invariant-hangs l = record {
  marked : (w : ℕ) → has_number l.apart w ≡ (list_any (λ h. (h.wire.0 == w) && joins l.forest l.hangs l.views.all.rows l.views.without_over.rows l.views.without_other.rows h) (take l.k l.hangs) || has_number l.fn.apart w);
  len_is : length l.apart ≡ length l.fn.apart;
}
