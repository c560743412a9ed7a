use Rattle.rig_port.proofs.Vocabulary.{◌≡◌, ◌∙◌, ◌+◌, ◌*◌, ap, arith, leb-true, div_ceil}
use Rattle.rig_port.proofs.Room.{line_fits, room_is, room_least}
use Rattle.rig_port.proofs.rig_port.has_room.Goals as goal

pub returns : goal.returns
returns c = λ is rows len wide.
    let word : c.div_ceil.result * 2 + 1 ≡ 2 * div_ceil c.args.pins 8 + 1 = omega (arith, c.div_ceil.ensures) in
    let fits = leb-true _ _ is in
    line_fits c.args.pins c.args.count c.args.room rows
    (room_is (c.args.count * (2 * div_ceil c.args.pins 8 + 1)) c.in-Some.words c.at_least_one.result c.in-Some-checked_add.whole c.args.room
    (c.in-Some.ensures.1 ∙ ap (λ k. c.args.count * k) word) c.at_least_one.ensures.more c.in-Some-checked_add.ensures.1 fits)
    (room_least c.at_least_one.result c.in-Some-checked_add.whole c.args.room c.at_least_one.ensures.some c.in-Some-checked_add.ensures.1 fits) len wide
