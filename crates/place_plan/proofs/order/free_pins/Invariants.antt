use Rattle.place_plan.specs.Vocabulary.{AreThose, IsAmongFirst, same_number, IsFreePin}
use Rattle.place_plan.proofs.order.free_pins.Given as goal

abbrev pub invariant-loop-k : goal.invariant-loop-k
invariant-loop-k l = AreThose (IsAmongFirst same_number l.k (IsFreePin l.defects.shape l.defects.list)) l.pins
