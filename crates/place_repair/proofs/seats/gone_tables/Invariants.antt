use Rattle.place_repair.proofs.Vocabulary.{AreThose, IsAmongFirst, same_number, IsGoneTable}
use Rattle.place_repair.proofs.seats.gone_tables.Given as goal

abbrev pub invariant-loop-t : goal.invariant-loop-t
invariant-loop-t l = AreThose (IsAmongFirst same_number l.t (IsGoneTable l.defects.list l.image)) l.gone
