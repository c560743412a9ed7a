use Rattle.std.proofs.Common.{◌≡◌, length}
use Rattle.rig_simulated.proofs.ranks.rank_all.Given as goal

abbrev pub invariant-passes : goal.invariant-passes
invariant-passes l = length l.ranks ≡ length l.fn.ranks
