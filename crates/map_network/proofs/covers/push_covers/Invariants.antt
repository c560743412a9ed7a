use Rattle.map_network.proofs.Vocabulary.{◌≡◌, ◌++◌, drop, take, length, sum_by, covers_tables, cover_size, source_in}
use Rattle.map_network.proofs.covers.push_covers.Given as goal

abbrev pub invariant-covers : goal.invariant-covers
invariant-covers l = record {
  tables : l.tables.items ++ covers_tables (source_in l.sources) (length l.tables.items) (drop l.k l.covers) ≡ covers_tables (source_in l.sources) 0 l.covers;
  room : length l.tables.items ≡ sum_by cover_size (take l.k l.covers);
}
