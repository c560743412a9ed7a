use Rattle.place_plan.proofs.Vocabulary.{IsFreeTable, AreThose, IsAmongFirst, same_number}
use Rattle.place_plan.proofs.order.free_tables.Given as goal

abbrev pub invariant-loop-t : goal.invariant-loop-t
invariant-loop-t l = AreThose (IsAmongFirst same_number l.t (IsFreeTable l.defects.shape l.defects.list)) l.tables
