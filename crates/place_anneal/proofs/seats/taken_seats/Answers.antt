use Rattle.place_anneal.proofs.Vocabulary.{number_of, number_at}
use Rattle.place_anneal.proofs.Seating.{mapped_more}
use Rattle.place_anneal.proofs.seats.taken_seats.Goals as goal

pub loop-table-preserved : goal.loop-table-preserved
loop-table-preserved c =
    mapped_more number_at number_of c.loop-table.seats.items c.push.new.self.items c.seat_at.result
    c.args.tables.now c.loop-table.table-index _
    c.loop-table-test.true c.loop-table.invariant (c.in_ok-push.ensures {u = tt}).items c.seat_at.ensures
