use Rattle.std.proofs.Common.{◌≡◌, take, drop, ◌++◌}
use Rattle.rig_doubled.proofs.copied.set_tables.Given as goal

abbrev pub invariant-tables : goal.invariant-tables
invariant-tables l = l.copy.config ≡ record l.fn.copy.config { tables = take l.t l.config.config.tables ++ drop l.t l.fn.copy.config.tables }
