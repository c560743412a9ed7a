use Rattle.map_network.proofs.Vocabulary.{◌≡◌, ◌++◌, ◌+◌, drop, length, rows_wants, trees, tree_ends, rows_size, source_in}
use Rattle.map_network.proofs.covers.push_rows.Given as goal

abbrev pub invariant-rows : goal.invariant-rows
invariant-rows l = record {
  tables : l.tables.items ++ trees (length l.tables.items) (drop l.k (rows_wants (source_in l.sources) l.cover)) ≡ l.fn.tables.items ++ trees (length l.fn.tables.items) (rows_wants (source_in l.sources) l.cover);
  ends : l.ends.items ++ tree_ends (length l.tables.items) (drop l.k (rows_wants (source_in l.sources) l.cover)) ≡ tree_ends (length l.fn.tables.items) (rows_wants (source_in l.sources) l.cover);
  room : length l.tables.items + rows_size (drop l.k l.cover.rows) ≡ length l.fn.tables.items + rows_size l.cover.rows;
}
