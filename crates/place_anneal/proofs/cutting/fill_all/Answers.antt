use Rattle.std.proofs.lemmas.List.Sorted.{IsPermutation-trans}
use Rattle.place_anneal.proofs.cutting.fill_all.Goals as goal

pub loop-target-preserved : goal.loop-target-preserved
loop-target-preserved c = IsPermutation-trans _ _ _ c.loop-target.invariant c.fill.ensures
