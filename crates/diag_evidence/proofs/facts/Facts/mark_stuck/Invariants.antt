use Rattle.diag_evidence.proofs.Vocabulary.{◌≡◌, ℕ, length, take, ◌||◌, has_number, held_up_at}
use Rattle.diag_evidence.proofs.facts.Facts.mark_stuck.Given as goal

abbrev pub invariant-leads : goal.invariant-leads
invariant-leads l = record {
  marks : (x : ℕ) → has_number l.stuck x ≡ (held_up_at l.self l.reads.rows (take l.k l.leads) x || has_number l.fn.stuck x);
  len : length l.stuck ≡ length l.fn.stuck;
}
