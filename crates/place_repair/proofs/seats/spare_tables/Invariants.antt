use Rattle.place_repair.proofs.Vocabulary.{AreThose, IsAmongFirst, same_number, IsSpareTable}
use Rattle.place_repair.proofs.seats.spare_tables.Given as goal

abbrev pub invariant-loop-t : goal.invariant-loop-t
invariant-loop-t l = AreThose (IsAmongFirst same_number l.t (IsSpareTable l.defects.list l.image)) l.spare
