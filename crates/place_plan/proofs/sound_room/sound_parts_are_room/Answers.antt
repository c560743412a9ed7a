use Rattle.machine_shape.proofs.Totals.{nodes_are}
use Rattle.place_plan.proofs.Enough.{sound-enough}
use Rattle.place_plan.proofs.sound_room.sound_parts_are_room.Goals as goal

pub returns-clause-enough : goal.returns-clause-enough
returns-clause-enough c = λ m d f n fair sound.
    let leave = c.fair_lists_leave_sound_parts.ensures in
    sound-enough m d f n (c.the_numbering_is_sound.ensures.parents m) (nodes_are m).2 (leave.whole m d f fair) (leave.ports m d f fair) (leave.pins m d f fair) (leave.tables m d f fair) sound

pub returns-clause-room : goal.returns-clause-room
returns-clause-room c = λ m d f n s network fair sound.
    let leave = c.fair_lists_leave_sound_parts.ensures in
    c.enough_free_parts_are_room.ensures m d n s network
    (sound-enough m d f n (c.the_numbering_is_sound.ensures.parents m) (nodes_are m).2 (leave.whole m d f fair) (leave.ports m d f fair) (leave.pins m d f fair) (leave.tables m d f fair) sound)
