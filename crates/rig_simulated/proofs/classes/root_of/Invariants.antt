use Rattle.rig_simulated.proofs.Vocabulary.{◌≡◌, ℕ, ◌-◌, ◌^◌, ◌<◌, length, knot_at, HasRoots}
use Rattle.rig_simulated.proofs.classes.root_of.Given as goal

abbrev pub invariant-up : goal.invariant-up
invariant-up l = record {
  within : l.at < length l.knots;
  here : l.knot ≡ knot_at l.knots l.at;
  low : l.knot.rank < 2 ^ 64;
  root_is : (most : ℕ) (root : ℕ → ℕ) → HasRoots l.knots most root → root l.at ≡ root l.wire;
}

abbrev pub decreases-up : goal.decreases-up
decreases-up l = 2 ^ 64 - l.knot.rank
