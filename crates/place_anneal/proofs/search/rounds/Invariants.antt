use Rattle.std.specs.List.Sorted.{IsPermutation}
use Rattle.place_anneal.proofs.search.rounds.Given as goal

abbrev pub invariant-loop-heat : goal.invariant-loop-heat
invariant-loop-heat l = IsPermutation l.fn.trial.seats.items l.trial.seats.items
