use Rattle.std.proofs.Common.{◌≡◌, length}
use Rattle.rig_simulated.proofs.events.make_flips.Given as goal

abbrev pub invariant-places : goal.invariant-places
invariant-places l = length l.flips.items ≡ l._k
