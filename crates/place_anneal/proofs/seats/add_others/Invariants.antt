use Rattle.place_anneal.proofs.Vocabulary.{◌≤◌, length, map, AreFreeTables, AreMarked, number_at}
use Rattle.place_anneal.proofs.seats.add_others.Given as goal

abbrev pub invariant-loop-t : goal.invariant-loop-t
invariant-loop-t l =
    AreFreeTables l.defects.shape l.defects.list (map number_at l.seats.items) × (length l.fn.seats.items ≤ length l.seats.items) × AreMarked l.seats.items l.marks.items
