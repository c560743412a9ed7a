use Rattle.place_plan.proofs.Vocabulary.{◌≡◌, ◌++◌, map, number_of, reads_to}
use Rattle.place_plan.proofs.terminals.push_all_reads.Given as goal

abbrev pub invariant-loop-j : goal.invariant-loop-j
invariant-loop-j l = l.terminals.items ≡ l.fn.terminals.items ++ reads_to l.shape l.network (map number_of l.places) l.j
