use Rattle.map_network.proofs.Vocabulary.{◌≡◌, ◌++◌, drop, named_by, kept_tables}
use Rattle.map_network.proofs.compact.kept_tables.Given as goal

abbrev pub invariant-tables : goal.invariant-tables
invariant-tables l = l.kept.items ++ kept_tables (named_by l.ranks) (drop l.j l.dropped) (drop l.j l.tables) ≡ kept_tables (named_by l.ranks) l.dropped l.tables
