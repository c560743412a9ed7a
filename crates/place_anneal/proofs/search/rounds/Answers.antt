use Rattle.std.proofs.lemmas.List.Sorted.{IsPermutation-trans}
use Rattle.place_anneal.proofs.search.rounds.Goals as goal

pub loop-heat-preserved : goal.loop-heat-preserved
loop-heat-preserved c = IsPermutation-trans _ _ _ c.loop-heat.invariant c.round.ensures
