use Rattle.std.proofs.Common.{◌≡◌, true, get_or}
use Rattle.rig_simulated.proofs.Chaining.{IsOnWay}
use Rattle.rig_simulated.proofs.chains.is_pulled.Given as goal

abbrev pub invariant-up : goal.invariant-up
invariant-up l = IsOnWay l.pins l.class l.at (λ k. get_or l.drive k true ≡ true)

abbrev pub decreases-up : goal.decreases-up
decreases-up l = l.at
