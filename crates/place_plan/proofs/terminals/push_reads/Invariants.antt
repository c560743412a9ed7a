use Rattle.place_plan.proofs.Vocabulary.{◌≡◌, ◌++◌, reads_of}
use Rattle.place_plan.proofs.terminals.push_reads.Given as goal

abbrev pub invariant-loop-k : goal.invariant-loop-k
invariant-loop-k l = l.terminals.items ≡ l.fn.terminals.items ++ reads_of l.shape l.inputs l.place.0 l.sources l.k
