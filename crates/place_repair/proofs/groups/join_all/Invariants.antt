use Rattle.place_repair.proofs.Vocabulary.{HasJoined, IsCross, no_cross, IsOfFirst}
use Rattle.place_repair.proofs.groups.join_all.Given as goal

abbrev pub invariant-loop-k : goal.invariant-loop-k
invariant-loop-k l = HasJoined l.config.config (IsOfFirst IsCross no_cross l.closed l.k) l.parents
