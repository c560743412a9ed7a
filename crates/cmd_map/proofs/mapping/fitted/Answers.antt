use Rattle.cmd_map.proofs.Vocabulary.{plain_network, took-value, maps_within}
use Rattle.cmd_map.proofs.MapLemmas.{room-of, fit-took}
use Rattle.cmd_map.proofs.mapping.fitted.Goals as goal

pub no_place-requires : goal.no_place-requires
no_place-requires c = (c.args.defects.now, plain_network c.args.read.now.netlist, c.shape.ensures.shape, c.in-Err.ensures.refused)

pub returns-in-Ok : goal.returns-in-Ok
returns-in-Ok c =
    let e = c.in-Ok.ensures in
    λ o.
    took-value (maps_within c.args.defects.now c.args.read.now) c.in-Ok.text o
    (record { remapped = e.remapped; narrow = rw c.as_slice.ensures at e.narrow }, room-of c.args.defects.now c.in-Ok.text.netlist e.room)

pub returns-in-Err : goal.returns-in-Err
returns-in-Err c =
    let stops = c.no_place.ensures c.args.defects.now (plain_network c.args.read.now.netlist) c.shape.ensures.shape c.in-Err.ensures.refused in
    λ o. fit-took c.args.defects.now c.args.read.now _ o stops
