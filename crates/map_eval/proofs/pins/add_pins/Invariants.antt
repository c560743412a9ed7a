use Rattle.map_eval.specs.Pins.{ArePinsTo}
use Rattle.map_eval.proofs.pins.add_pins.Given as goal

abbrev pub invariant-pins : goal.invariant-pins
invariant-pins l = ArePinsTo l.network l.table l.pin l.lists.items
