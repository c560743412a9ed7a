use Rattle.place_route.proofs.Vocabulary.{ℕ, take, get_or, length, ◌<◌, arith, take_more}
use Rattle.place_route.proofs.Marking.{wire_more}
use Rattle.place_route.proofs.owners.mark_net.Goals as goal

pub loop-wire-preserved : goal.loop-wire-preserved
loop-wire-preserved c =
    let w : ℕ = get_or c.args.wires.now c.loop-wire.wire-index 0 in
    let within : w < length c.loop-wire.owners = (let l : w < length c.args.owners.now = c.requires c.loop-wire.wire-index 0 c.loop-wire-test.true in let e = c.loop-wire.auto.owners in omega arith) in
    rw (take_more c.args.wires.now c.loop-wire.wire-index 0 c.loop-wire-test.true) (wire_more c.args.net.0 (take c.loop-wire.wire-index c.args.wires.now) w c.args.owners.now c.loop-wire.owners within c.loop-wire.invariant)
