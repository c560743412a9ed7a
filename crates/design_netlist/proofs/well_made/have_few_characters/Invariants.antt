use Rattle.design_netlist.proofs.Vocabulary.{◌≡◌, ◌+◌, take, sum_by, cover_characters}
use Rattle.design_netlist.proofs.well_made.have_few_characters.Given as goal

abbrev pub invariant-covers : goal.invariant-covers
invariant-covers l = l.left + sum_by cover_characters (take l.k l.covers) ≡ 16777216
