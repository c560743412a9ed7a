use Rattle.machine_meaning.proofs.Standing.{has_standing}
use Rattle.machine_meaning.proofs.tight.parts_of_served_nodes_stand.Goals as goal

pub returns : goal.returns
returns c = λ m f. has_standing m (c.the_numbering_is_sound.ensures.numbered m) (c.the_numbering_is_sound.ensures.tree m)
    (c.the_numbering_is_sound.ensures.parents m) (c.the_crosspoints_are_sound.ensures.crosses m)
    (c.the_crosspoints_are_sound.ensures.meetings m) (c.each_wire_has_a_home.ensures m) (c.served_nodes_have_sound_parts.ensures m) f
