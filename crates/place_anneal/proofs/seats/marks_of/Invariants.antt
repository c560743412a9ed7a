use Rattle.place_anneal.proofs.Vocabulary.{take, AreMarked}
use Rattle.place_anneal.proofs.seats.marks_of.Given as goal

abbrev pub invariant-loop-seat : goal.invariant-loop-seat
invariant-loop-seat l = AreMarked (take l.seat-index l.seats) l.marks.items
