use Rattle.place_repair.proofs.Vocabulary.{IsEndOf, no_cross, IsMarked, IsOfFirst}
use Rattle.place_repair.proofs.uses.mark_ends.Given as goal

abbrev pub invariant-loop-k : goal.invariant-loop-k
invariant-loop-k l = IsMarked (IsOfFirst (λ c. IsEndOf l.shape c.0) no_cross l.closed l.k) l.fn.marks l.marks
