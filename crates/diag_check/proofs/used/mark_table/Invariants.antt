use Rattle.diag_check.specs.Marks.{Adds, IsPinOfTable}
use Rattle.diag_check.proofs.used.mark_table.Given as goal

abbrev pub invariant-pins : goal.invariant-pins
invariant-pins l = Adds (IsPinOfTable l.shape l.table.0 l.j) l.initial.used l.used
