use Rattle.rig_simulated.proofs.Vocabulary.{◌≡◌, ◌<◌, ℕ, length, slice_index, IsOutputOf}
use Rattle.rig_simulated.proofs.pulls.clear_pulls.Given as goal

abbrev pub invariant-gates : goal.invariant-gates
invariant-gates l = record {
  len : length l.pulls.items ≡ length l.fn.pulls.items;
  only : (r : ℕ) → 0 < slice_index l.pulls.items r → IsOutputOf l.gates l.i r;
}
