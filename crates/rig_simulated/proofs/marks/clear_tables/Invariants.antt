use Rattle.rig_simulated.proofs.Vocabulary.{◌≡◌, ℕ, true, length, is_low, IsOutputOf}
use Rattle.rig_simulated.proofs.marks.clear_tables.Given as goal

abbrev pub invariant-gates : goal.invariant-gates
invariant-gates l = record {
  len : length l.low ≡ length l.fn.low;
  only : (r : ℕ) → is_low l.low r ≡ true → IsOutputOf l.gates l.i r;
}
