use Rattle.place_plan.proofs.Vocabulary.{port_at, IsFreeWire, AreThose, IsAmongFirst}
use Rattle.place_plan.proofs.ports.ports_at.Given as goal

abbrev pub invariant-loop-k : goal.invariant-loop-k
invariant-loop-k l = AreThose (IsAmongFirst (port_at l.defects.shape l.node) l.k (IsFreeWire l.defects.list)) l.ports
