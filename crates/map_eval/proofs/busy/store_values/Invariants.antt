use Rattle.map_eval.proofs.Vocabulary.{◌≡◌, length, AreTablesIn}
use Rattle.map_eval.proofs.busy.store_values.Given as goal

abbrev pub invariant-tables : goal.invariant-tables
invariant-tables l = (length l.values ≡ length l.fn.values) × AreTablesIn l.table l.values l.bits
