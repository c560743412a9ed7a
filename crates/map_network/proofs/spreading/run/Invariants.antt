use Rattle.map_network.specs.Spreading.{Spreads}
use Rattle.map_network.proofs.spreading.run.Given as goal

abbrev pub invariant-turns : goal.invariant-turns
invariant-turns l = Spreads l.fn.tables.items l.tables.items
