use Rattle.place_plan.proofs.Enough.{enough-room}
use Rattle.place_plan.proofs.sound_room.enough_free_parts_are_room.Goals as goal

pub returns : goal.returns
returns c = λ m d n s network enough short.
    enough-room m d n network (c.the_numbering_is_sound.ensures.numbered m) (c.the_numbering_is_sound.ensures.tree m) (c.the_numbering_is_sound.ensures.parents m) (c.the_crosspoints_are_sound.ensures.taps m) (c.the_crosspoints_are_sound.ensures.crosses m) (c.ports_and_lines_ascend.ensures m) s enough short
