use Rattle.place_plan.proofs.Vocabulary.{length, IsEnough, HasTerminal}
use Rattle.place_plan.proofs.room.rooms.Given as goal

abbrev pub invariant-loop-n : goal.invariant-loop-n
invariant-loop-n l = IsEnough l.defects.shape l.defects.list (length l.nets) (HasTerminal l.nets) l.n l.held.ports.items l.held.visits.items
