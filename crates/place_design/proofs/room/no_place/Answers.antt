use Rattle.place_design.proofs.LayLemmas.{short-node, room-plan}
use Rattle.place_design.proofs.room.no_place.Goals as goal

pub no_room-requires : goal.no_room-requires
no_room-requires c =
    let r = c.requires in
    let short = rw c.in-Short.is at r.3 in
    rw r.2 (short-node r.0 r.1 c.in-Short.short short)

pub returns-in-Short : goal.returns-in-Short
returns-in-Short c =
    λ d n shape fails.
    let short = rw c.in-Short.is at fails in
    room-plan d n _ c.in-Short.short _ shape short c.no_room.ensures
