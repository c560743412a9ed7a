use Rattle.map_network.specs.Joining.{Puts}
use Rattle.map_network.proofs.work.run.Given as goal

abbrev pub invariant-turns : goal.invariant-turns
invariant-turns l = Puts l.fn.work.tables.items l.fn.work.merged.items l.work.tables.items l.work.merged.items
