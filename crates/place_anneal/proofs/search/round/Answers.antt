use Rattle.std.proofs.lemmas.List.Sorted.{IsPermutation-trans}
use Rattle.place_anneal.proofs.search.round.Goals as goal

pub loop-k-preserved : goal.loop-k-preserved
loop-k-preserved c = IsPermutation-trans _ _ _ c.loop-k.invariant c.step.ensures
