use Rattle.machine_meaning.proofs.Fairness.{two_of_use}
use Rattle.machine_meaning.proofs.served.whole_lines_have_two_sound_crosspoints.Goals as goal

pub returns : goal.returns
returns c = λ m f n l s line whole. two_of_use m (c.the_numbering_is_sound.ensures.tree m) f n l line
    ((c.served_nodes_have_sound_parts.ensures m).whole f n l s line whole)
