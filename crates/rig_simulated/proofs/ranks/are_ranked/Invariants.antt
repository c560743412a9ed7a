use Rattle.rig_simulated.proofs.Vocabulary.{take, slice_index, IsRankedOrLatched}
use Rattle.std.specs.List.{All}
use Rattle.rig_simulated.proofs.ranks.are_ranked.Given as goal

abbrev pub invariant-gates : goal.invariant-gates
invariant-gates l = All (IsRankedOrLatched (slice_index l.ranks) l.most) (take l.i l.gates)
