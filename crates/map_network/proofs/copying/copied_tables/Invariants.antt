use Rattle.std.proofs.Common.{◌≡◌, take}
use Rattle.map_network.proofs.copying.copied_tables.Given as goal

abbrev pub invariant-tables : goal.invariant-tables
invariant-tables l = l.copies.items ≡ take l.j l.tables
