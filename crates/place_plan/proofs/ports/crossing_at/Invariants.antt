use Rattle.place_plan.specs.Vocabulary.{AreThose, IsAmongFirst, nth_of, CrossesIn}
use Rattle.place_plan.proofs.ports.crossing_at.Given as goal

abbrev pub invariant-loop-k : goal.invariant-loop-k
invariant-loop-k l = AreThose (IsAmongFirst (nth_of l.touched) l.k-index (CrossesIn l.tree.shape l.nets l.node)) l.crossing
