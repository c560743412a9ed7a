use Rattle.place_repair.proofs.Vocabulary.{IsBrokenHere, no_table, IsMarked, IsOfFirst}
use Rattle.place_repair.proofs.keeping.mark_tables.Given as goal

abbrev pub invariant-loop-k : goal.invariant-loop-k
invariant-loop-k l = IsMarked (IsOfFirst (λ t. IsBrokenHere l.defects.list l.config.config l.nets.lowest t.0) no_table l.tables l.k) l.fn.marks l.marks
