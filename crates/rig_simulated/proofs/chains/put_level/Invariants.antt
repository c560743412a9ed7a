use Rattle.std.proofs.Common.{◌≡◌, ◌≢◌, ℕ, true, length, get_or, slice_index}
use Rattle.rig_simulated.proofs.Chaining.{IsOnWay}
use Rattle.rig_simulated.proofs.chains.put_level.Given as goal

abbrev pub invariant-up : goal.invariant-up
invariant-up l = record {
  len : length l.read ≡ length l.fn.read;
  way : IsOnWay l.pins l.class l.at (λ k. get_or l.read k true ≡ l.level);
  others : (k : ℕ) → slice_index l.pins k ≢ l.class → get_or l.read k true ≡ get_or l.fn.read k true;
}

abbrev pub decreases-up : goal.decreases-up
decreases-up l = l.at
