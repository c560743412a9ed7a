use Rattle.place_repair.proofs.Vocabulary.{IsTablePin, no_table, IsMarked, IsOfFirst}
use Rattle.place_repair.proofs.uses.mark_tables.Given as goal

abbrev pub invariant-loop-k : goal.invariant-loop-k
invariant-loop-k l = IsMarked (IsOfFirst (λ t. IsTablePin l.shape t.0 7) no_table l.tables l.k) l.fn.marks l.marks
