use Rattle.diag_evidence.specs.Forests.{KeepsForest}
use Rattle.diag_sweep.proofs.trees.plant_pins.Given as goal

abbrev pub invariant-pins : goal.invariant-pins
invariant-pins l = KeepsForest l.facts l.forest
