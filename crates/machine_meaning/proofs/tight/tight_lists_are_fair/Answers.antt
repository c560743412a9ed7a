use Rattle.machine_meaning.proofs.Tightness.{free_standing, free_cross, unlisted, free_table, fair}
use Rattle.machine_meaning.proofs.tight.tight_lists_are_fair.Goals as goal

pub returns-clause-wires : goal.returns-clause-wires
returns-clause-wires c = λ m d f tight w stands. (free_standing m (c.the_numbering_is_sound.ensures.numbered m) d f tight stands).1

pub returns-clause-between : goal.returns-clause-between
returns-clause-between c = λ m d f tight x b sound tap line.
    free_cross m (c.the_numbering_is_sound.ensures.numbered m) d f tight x (b, sound) tap line

pub returns-clause-crosses : goal.returns-clause-crosses
returns-clause-crosses c = λ m d f tight x b sound. unlisted m (c.the_numbering_is_sound.ensures.numbered m) d f tight x b sound.not_stuck

pub returns-clause-tables : goal.returns-clause-tables
returns-clause-tables c = λ m d f tight t b sound seated.
    free_table m (c.the_numbering_is_sound.ensures.numbered m) d f tight t b sound seated

pub returns-clause-fair : goal.returns-clause-fair
returns-clause-fair c = λ m d f tight. fair m (c.the_numbering_is_sound.ensures.numbered m) d f tight (c.each_wire_has_a_home.ensures m)
    (c.parts_of_served_nodes_stand.ensures m f)
