use Rattle.diag_evidence.specs.Forests.{KeepsForest}
use Rattle.diag_sweep.proofs.trees.lay_all.Given as goal

abbrev pub invariant-places : goal.invariant-places
invariant-places l = KeepsForest l.facts l.forest
