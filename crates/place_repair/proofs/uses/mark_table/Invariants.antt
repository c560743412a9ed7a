use Rattle.place_repair.proofs.Vocabulary.{IsTablePin, IsMarked}
use Rattle.place_repair.proofs.uses.mark_table.Given as goal

abbrev pub invariant-loop-j : goal.invariant-loop-j
invariant-loop-j l = IsMarked (IsTablePin l.shape l.table.0 l.j) l.fn.marks l.marks
