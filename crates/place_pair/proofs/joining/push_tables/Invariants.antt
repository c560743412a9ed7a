use Rattle.place_pair.proofs.Vocabulary.{◌≡◌, ◌++◌, map, take, moved_table}
use Rattle.place_pair.proofs.joining.push_tables.Given as goal

abbrev pub invariant-tables : goal.invariant-tables
invariant-tables l = l.tables.items ≡ l.fn.tables.items ++ map (moved_table l.inputs l.before) (take l.j l.from)
