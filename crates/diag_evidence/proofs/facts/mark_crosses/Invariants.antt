use Rattle.diag_evidence.proofs.Vocabulary.{◌≡◌, ◌||◌, ℕ, length, take, has_number, among, feet_crosses}
use Rattle.diag_evidence.proofs.facts.mark_crosses.Given as goal

abbrev pub invariant-feet : goal.invariant-feet
invariant-feet l = record {
  marked : (x : ℕ) → has_number l.crosses x ≡ (among (take l.k (feet_crosses l.feet)) x || has_number l.fn.crosses x);
  len : length l.crosses ≡ length l.fn.crosses;
}
