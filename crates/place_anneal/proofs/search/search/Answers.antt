use Rattle.std.proofs.lemmas.List.Sorted.{IsPermutation-trans}
use Rattle.place_anneal.proofs.search.search.Goals as goal

pub returns : goal.returns
returns c = IsPermutation-trans _ _ _ c.seat_first.ensures c.rounds.ensures
