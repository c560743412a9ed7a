use Rattle.design_netlist.proofs.Vocabulary.{◌≡◌, ◌+◌, take, sum_by, row_characters}
use Rattle.design_netlist.proofs.well_made.left_after.Given as goal

abbrev pub invariant-rows : goal.invariant-rows
invariant-rows l = l.left + sum_by row_characters (take l.k l.rows) ≡ l.fn.most
