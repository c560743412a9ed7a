use Rattle.place_anneal.proofs.Vocabulary.{refl, number_of, number_at}
use Rattle.place_anneal.proofs.Seating.{mapped_more}
use Rattle.place_anneal.proofs.seats.tables_at.Goals as goal

pub loop-seat-preserved : goal.loop-seat-preserved
loop-seat-preserved c =
    mapped_more number_of number_at c.loop-seat.tables c.push.new.self _ c.args.seats.now c.loop-seat.seat-index _
    c.loop-seat-test.true c.loop-seat.invariant (c.in_ok-push.ensures {u = tt}).pushed refl
