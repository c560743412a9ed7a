use Rattle.machine_shape.proofs.Homed.{has_homes}
use Rattle.machine_shape.proofs.laws.each_wire_has_a_home.Goals as goal

pub returns : goal.returns
returns c = λ m. has_homes m (c.the_numbering_is_sound.ensures.tree m) (c.the_numbering_is_sound.ensures.meanings m) (c.the_numbering_is_sound.ensures.parents m)
    (c.the_crosspoints_are_sound.ensures.meetings m)
