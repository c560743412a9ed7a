use Rattle.map_network.specs.Spreading.{Spreads}
use Rattle.map_network.proofs.spreading.spread_tables.Given as goal

abbrev pub invariant-most : goal.invariant-most
invariant-most l = Spreads l.network.tables l.tables.items
