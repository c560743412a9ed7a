use Rattle.place_repair.proofs.Vocabulary.{map, ap, ◌∙◌, refl, take_all, nth_of}
use Rattle.place_repair.proofs.Placing.{map_more}
use Rattle.place_repair.proofs.seats.moved.Goals as goal

pub bounds-places-pins : goal.bounds-places-pins
bounds-places-pins c = c.requires c.loop-i.i 0 c.loop-i-test.true

pub loop-i-preserved : goal.loop-i-preserved
loop-i-preserved c = c.in_ok-push.ensures.items ∙ map_more (nth_of c.args.places.now) c.args.pins.now c.loop-i.moved.items c.loop-i.i _ c.loop-i-test.true refl c.loop-i.invariant

pub returns : goal.returns
returns c = c.loop-i.invariant ∙ ap (map (nth_of c.args.places.now)) (take_all c.loop-i.i c.args.pins.now c.loop-i-test.false)
