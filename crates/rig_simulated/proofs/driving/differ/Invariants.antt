use Rattle.std.proofs.Common.{◌≡◌, ℕ, ◌<◌, ◌≤◌, true, false, get_or}
use Rattle.rig_simulated.proofs.driving.differ.Given as goal

abbrev pub invariant-places : goal.invariant-places
invariant-places l = l.found ≡ false → (k : ℕ) → l.from ≤ k → k < l.k → get_or l.a k true ≡ get_or l.b k true
