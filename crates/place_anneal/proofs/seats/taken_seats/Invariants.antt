use Rattle.place_anneal.proofs.Vocabulary.{◌≡◌, map, take, number_of, number_at}
use Rattle.place_anneal.proofs.seats.taken_seats.Given as goal

abbrev pub invariant-loop-table : goal.invariant-loop-table
invariant-loop-table l = map number_at l.seats.items ≡ take l.table-index (map number_of l.tables)
