use Rattle.place_plan.proofs.Vocabulary.{◌≡◌, ◌++◌, drive_terminals}
use Rattle.place_plan.proofs.terminals.push_drives.Given as goal

abbrev pub invariant-loop-k : goal.invariant-loop-k
invariant-loop-k l = l.terminals.items ≡ l.fn.terminals.items ++ drive_terminals l.shape l.pins l.k
