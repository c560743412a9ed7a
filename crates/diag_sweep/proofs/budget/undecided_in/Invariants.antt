use Rattle.diag_sweep.proofs.Vocabulary.{◌≡◌, ℕ, ◌<◌, ◌≤◌, ◌&&◌, false, length, has_number, crosses_of, is_undecided}
use Rattle.diag_sweep.proofs.budget.undecided_in.Given as goal

abbrev pub invariant-crosses : goal.invariant-crosses
invariant-crosses l = record {
  len : length l.set ≡ crosses_of l.facts.shape;
  has : (y : ℕ) → y < l.x → has_number l.set y ≡ (has_number l.field.crosses y && is_undecided l.facts l.bad y);
  rest : (y : ℕ) → l.x ≤ y → has_number l.set y ≡ false;
}
