use Rattle.place_anneal.proofs.Vocabulary.{◌≡◌, map, take, number_of, number_at}
use Rattle.place_anneal.proofs.seats.tables_at.Given as goal

abbrev pub invariant-loop-seat : goal.invariant-loop-seat
invariant-loop-seat l = map number_of l.tables ≡ take l.seat-index (map number_at l.seats)
