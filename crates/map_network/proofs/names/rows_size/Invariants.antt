use Rattle.map_network.proofs.Vocabulary.{◌≡◌, ◌≤◌, take, sum_by, row_characters, rows_size}
use Rattle.map_network.proofs.names.rows_size.Given as goal

abbrev pub invariant-rows : goal.invariant-rows
invariant-rows l = (l.size ≡ rows_size (take l.k l.rows)) × (l.size ≤ sum_by row_characters (take l.k l.rows))
