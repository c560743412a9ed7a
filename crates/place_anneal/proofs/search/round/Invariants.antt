use Rattle.std.specs.List.Sorted.{IsPermutation}
use Rattle.place_anneal.proofs.search.round.Given as goal

abbrev pub invariant-loop-k : goal.invariant-loop-k
invariant-loop-k l = IsPermutation l.fn.trial.seats.items l.trial.seats.items
