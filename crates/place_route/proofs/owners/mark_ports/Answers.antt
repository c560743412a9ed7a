use Rattle.place_route.proofs.Vocabulary.{take, get_or, length, ◌<◌, arith, take_more, Port, port_for}
use Rattle.place_route.proofs.Marking.{port_more}
use Rattle.place_route.proofs.owners.mark_ports.Goals as goal

abbrev no_port : Port
no_port = port_for 0 0 0

pub loop-port-preserved : goal.loop-port-preserved
loop-port-preserved c =
    let p : Port = get_or c.args.ports.now c.loop-port.port-index no_port in
    let within : p.wire.0 < length c.loop-port.owners = (let l : p.wire.0 < length c.args.owners.now = c.requires c.loop-port.port-index no_port c.loop-port-test.true in let e = c.loop-port.auto.owners in omega arith) in
    rw (take_more c.args.ports.now c.loop-port.port-index no_port c.loop-port-test.true) (port_more (take c.loop-port.port-index c.args.ports.now) p c.args.owners.now c.loop-port.owners within c.loop-port.invariant)
