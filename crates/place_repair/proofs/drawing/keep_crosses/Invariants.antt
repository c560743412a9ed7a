use Rattle.place_repair.proofs.Vocabulary.{Closes, IsKeptCrossOf, no_cross, IsOfFirst}
use Rattle.place_repair.proofs.drawing.keep_crosses.Given as goal

abbrev pub invariant-loop-k : goal.invariant-loop-k
invariant-loop-k l = Closes (IsOfFirst (λ c. IsKeptCrossOf l.old.config l.plan c.0) no_cross l.closed l.k) l.k l.fn.config.config l.config.config
