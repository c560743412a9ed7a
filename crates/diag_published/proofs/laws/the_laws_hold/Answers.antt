use Rattle.diag_published.proofs.laws.the_laws_hold.Goals as goal

pub returns : goal.returns
returns c = λ m. record {
  numbered = c.the_numbering_is_sound.ensures.numbered m;
  tree = c.the_numbering_is_sound.ensures.tree m;
  parents = c.the_numbering_is_sound.ensures.parents m;
  taps = c.the_crosspoints_are_sound.ensures.taps m;
  crosses = c.the_crosspoints_are_sound.ensures.crosses m;
  meetings = c.the_crosspoints_are_sound.ensures.meetings m;
  rows = c.crosspoints_stand_in_rows.ensures m;
  homes = c.each_wire_has_a_home.ensures m;
  served = c.served_nodes_have_sound_parts.ensures m;
  sites = c.ports_and_lines_ascend.ensures m;
}
