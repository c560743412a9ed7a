use Rattle.place_repair.specs.Making.{IsAdded, IsTablePinTerminal}
use Rattle.place_repair.proofs.terminals.add_table.Given as goal

abbrev pub invariant-loop-j : goal.invariant-loop-j
invariant-loop-j l = IsAdded (IsTablePinTerminal l.config.config l.plan l.table.0 l.place.0 l.j) l.fn.lists l.lists
