use Rattle.std.proofs.Common.{ℕ, ◌<◌, slice_index}
use Rattle.rig_simulated.proofs.ranks.is_ranked.Given as goal

abbrev pub invariant-inputs : goal.invariant-inputs
invariant-inputs l = (k : ℕ) → k < l.j → slice_index l.ranks (slice_index l.gate.ins k) < l.rank
