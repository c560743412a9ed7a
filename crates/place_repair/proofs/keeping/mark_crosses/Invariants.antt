use Rattle.place_repair.proofs.Vocabulary.{IsUnfreeCrossOf, no_cross, IsMarked, IsOfFirst}
use Rattle.place_repair.proofs.keeping.mark_crosses.Given as goal

abbrev pub invariant-loop-k : goal.invariant-loop-k
invariant-loop-k l = IsMarked (IsOfFirst (λ c. IsUnfreeCrossOf l.defects.list l.config.config l.nets.lowest c.0) no_cross l.closed l.k) l.fn.marks l.marks
