use Rattle.place_repair.proofs.Vocabulary.{AreThose, IsAmongFirst, same_number, IsSparePin}
use Rattle.place_repair.proofs.seats.spare_pins.Given as goal

abbrev pub invariant-loop-p : goal.invariant-loop-p
invariant-loop-p l = AreThose (IsAmongFirst same_number l.p (IsSparePin l.defects.list l.image)) l.spare
