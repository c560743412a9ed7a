use Rattle.machine_defects.proofs.Vocabulary.{◌≡◌, ◌++◌, map, written, those, entry_words, as_table}
use Rattle.std.specs.FinSet as set
use Rattle.machine_defects.proofs.write.put_tables.Given as goal

abbrev pub invariant-tables : goal.invariant-tables
invariant-tables l = l.text.items ≡ l.fn.text.items ++ written (map (entry_words l.list.shape) (map as_table (those (set.contains l.list.list.tables) l.t)))
