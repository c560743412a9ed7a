use Rattle.map_network.specs.Spreading.{Spreads}
use Rattle.map_network.proofs.spreading.put_all.Given as goal

abbrev pub invariant-readers : goal.invariant-readers
invariant-readers l = Spreads l.fn.tables.items l.tables.items
