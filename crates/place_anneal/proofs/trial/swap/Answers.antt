use Rattle.std.proofs.lemmas.List.Sorted.{IsPermutation-swap}
use Rattle.place_anneal.proofs.trial.swap.Goals as goal

pub returns : goal.returns
returns c = IsPermutation-swap _ _ _ _ c.requires.a c.requires.b c.swap.ensures.items
