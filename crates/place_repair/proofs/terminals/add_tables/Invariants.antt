use Rattle.place_repair.specs.Making.{IsAdded, IsFirstTableTerminal}
use Rattle.place_repair.proofs.terminals.add_tables.Given as goal

abbrev pub invariant-loop-k : goal.invariant-loop-k
invariant-loop-k l = IsAdded (IsFirstTableTerminal l.config.config l.plan l.tables l.k) l.fn.lists l.lists
