use Rattle.std.proofs.Common.{◌≡◌, take}
use Rattle.rig_board.proofs.keeping.tables_of.Given as goal

abbrev pub invariant-tables : goal.invariant-tables
invariant-tables l = l.tables.items ≡ take l.t l.config.config.tables
