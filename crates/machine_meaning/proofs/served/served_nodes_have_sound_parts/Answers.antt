use Rattle.machine_meaning.proofs.Serving.{has_served}
use Rattle.machine_meaning.proofs.served.served_nodes_have_sound_parts.Goals as goal

pub returns : goal.returns
returns c = λ m. has_served m (c.the_numbering_is_sound.ensures.numbered m) (c.the_numbering_is_sound.ensures.tree m) (c.the_numbering_is_sound.ensures.meanings m) (c.the_numbering_is_sound.ensures.parents m)
    (c.the_crosspoints_are_sound.ensures.crosses m) (c.the_crosspoints_are_sound.ensures.meetings m) (c.ports_and_lines_ascend.ensures m)
