use Rattle.machine_meaning.proofs.Fairness as fairness
use Rattle.machine_meaning.proofs.served.fair_lists_leave_sound_parts.Goals as goal

pub returns-clause-whole : goal.returns-clause-whole
returns-clause-whole c = λ m d f fair. fairness.open_line m (c.the_numbering_is_sound.ensures.numbered m)
    (c.the_numbering_is_sound.ensures.tree m) (c.the_numbering_is_sound.ensures.meanings m) (c.the_numbering_is_sound.ensures.parents m)
    (c.the_crosspoints_are_sound.ensures.crosses m) (c.each_wire_has_a_home.ensures m)
    (c.served_nodes_have_sound_parts.ensures m) d f fair

pub returns-clause-lines : goal.returns-clause-lines
returns-clause-lines c = λ m d f fair. fairness.free_line m (c.the_numbering_is_sound.ensures.numbered m)
    (c.the_numbering_is_sound.ensures.tree m) (c.the_numbering_is_sound.ensures.meanings m) (c.the_numbering_is_sound.ensures.parents m)
    (c.the_crosspoints_are_sound.ensures.crosses m) (c.each_wire_has_a_home.ensures m)
    (c.served_nodes_have_sound_parts.ensures m) d f fair

pub returns-clause-ports : goal.returns-clause-ports
returns-clause-ports c = λ m d f fair. fairness.free_port m (c.the_numbering_is_sound.ensures.numbered m)
    (c.the_numbering_is_sound.ensures.tree m) (c.the_numbering_is_sound.ensures.meanings m) (c.the_numbering_is_sound.ensures.parents m)
    (c.the_crosspoints_are_sound.ensures.crosses m) (c.each_wire_has_a_home.ensures m)
    (c.served_nodes_have_sound_parts.ensures m) d f fair

pub returns-clause-pins : goal.returns-clause-pins
returns-clause-pins c = λ m d f fair. fairness.free_pin m (c.the_numbering_is_sound.ensures.numbered m)
    (c.the_numbering_is_sound.ensures.tree m) (c.the_numbering_is_sound.ensures.meanings m) (c.the_numbering_is_sound.ensures.parents m)
    (c.the_crosspoints_are_sound.ensures.crosses m) (c.each_wire_has_a_home.ensures m)
    (c.served_nodes_have_sound_parts.ensures m) d f fair

pub returns-clause-tables : goal.returns-clause-tables
returns-clause-tables c = λ m d f fair. fairness.free_table m (c.the_numbering_is_sound.ensures.numbered m)
    (c.the_numbering_is_sound.ensures.tree m) (c.the_numbering_is_sound.ensures.meanings m) (c.the_numbering_is_sound.ensures.parents m)
    (c.the_crosspoints_are_sound.ensures.crosses m) (c.each_wire_has_a_home.ensures m)
    (c.served_nodes_have_sound_parts.ensures m) d f fair
