use Rattle.place_plan.proofs.Enough.{standing-enough, served-room, frees-crosses}
use Rattle.place_plan.proofs.sound_room.standing_parts_are_room.Goals as goal

pub returns-clause-enough : goal.returns-clause-enough
returns-clause-enough c = λ m d f n tight room.
    let leave = c.tight_lists_are_fair.ensures in
    standing-enough m d f n (leave.wires m d f tight) (frees-crosses m d f n tight) (leave.tables m d f tight) room

pub returns-clause-room : goal.returns-clause-room
returns-clause-room c = λ m d f n s network tight room.
    let leave = c.tight_lists_are_fair.ensures in
    c.enough_free_parts_are_room.ensures m d n s network
    (standing-enough m d f n (leave.wires m d f tight) (frees-crosses m d f n tight) (leave.tables m d f tight) room)

pub returns-clause-served : goal.returns-clause-served
returns-clause-served c = λ m f n sound.
    served-room m f n (c.the_numbering_is_sound.ensures.parents m) (c.parts_of_served_nodes_stand.ensures m f) sound
