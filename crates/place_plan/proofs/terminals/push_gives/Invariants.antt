use Rattle.place_plan.proofs.Vocabulary.{◌≡◌, ◌++◌, map, number_of, gives_of}
use Rattle.place_plan.proofs.terminals.push_gives.Given as goal

abbrev pub invariant-loop-j : goal.invariant-loop-j
invariant-loop-j l = l.terminals.items ≡ l.fn.terminals.items ++ gives_of l.shape l.inputs (map number_of l.places) l.j
