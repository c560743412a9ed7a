use Rattle.map_eval.specs.Placing.{ArePlaced}
use Rattle.map_eval.proofs.placing.tables_in.Given as goal

abbrev pub invariant-order : goal.invariant-order
invariant-order l = ArePlaced l.network l.places l.order l.k l.placed.items
