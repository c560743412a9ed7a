use Rattle.diag_evidence.specs.Forests.{KeepsForest}
use Rattle.diag_sweep.proofs.branching.plant_ends.Given as goal

abbrev pub invariant-trials : goal.invariant-trials
invariant-trials l = KeepsForest l.facts l.forest
