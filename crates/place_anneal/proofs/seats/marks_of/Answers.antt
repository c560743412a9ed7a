use Rattle.place_anneal.proofs.Seating.{marked_on}
use Rattle.place_anneal.proofs.seats.marks_of.Goals as goal

pub loop-seat-preserved : goal.loop-seat-preserved
loop-seat-preserved c =
    marked_on c.args.seats.now c.loop-seat.seat-index _ c.loop-seat.marks.items c.mark.new.marks.items c.loop-seat-test.true
    c.loop-seat.invariant c.mark.ensures.kept c.mark.ensures.this
