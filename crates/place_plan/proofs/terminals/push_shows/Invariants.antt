use Rattle.place_plan.proofs.Vocabulary.{◌≡◌, ◌++◌, shows_of}
use Rattle.place_plan.proofs.terminals.push_shows.Given as goal

abbrev pub invariant-loop-o : goal.invariant-loop-o
invariant-loop-o l = l.terminals.items ≡ l.fn.terminals.items ++ shows_of l.shape l.inputs l.pins l.sources l.o
