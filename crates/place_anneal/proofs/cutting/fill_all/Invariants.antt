use Rattle.std.specs.List.Sorted.{IsPermutation}
use Rattle.place_anneal.proofs.cutting.fill_all.Given as goal

abbrev pub invariant-loop-target : goal.invariant-loop-target
invariant-loop-target l = IsPermutation l.fn.trial.seats.items l.trial.seats.items
