use Rattle.map_eval.specs.Pins.{ArePinsTo}
use Rattle.map_eval.proofs.pins.pins_of.Given as goal

abbrev pub invariant-tables : goal.invariant-tables
invariant-tables l = ArePinsTo l.network l.table 0 l.lists.items
