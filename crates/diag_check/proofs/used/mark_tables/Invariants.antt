use Rattle.diag_check.specs.Marks.{Adds, IsTablePinAmong}
use Rattle.diag_check.proofs.used.mark_tables.Given as goal

abbrev pub invariant-tables : goal.invariant-tables
invariant-tables l = Adds (IsTablePinAmong l.shape l.tables l.i) l.initial.used l.used
