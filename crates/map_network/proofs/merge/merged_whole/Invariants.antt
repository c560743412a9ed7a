use Rattle.map_network.proofs.Vocabulary.{length, MatchOption, CanJoin, IsWhole, IsMergedOf}
use Rattle.map_network.proofs.merge.merged_whole.Given as goal

abbrev pub invariant-passes : goal.invariant-passes
invariant-passes l = record {
  merged : IsMergedOf l.fn.whole l.network;
  found : MatchOption l.found (IsWhole l.network) (λ pair. CanJoin l.network pair.0 pair.1);
}

abbrev pub decreases-passes : goal.decreases-passes
decreases-passes l = length l.network.tables
