use Rattle.diag_evidence.specs.Forests.{KeepsForest}
use Rattle.diag_sweep.proofs.trees.lay_links.Given as goal

abbrev pub invariant-links : goal.invariant-links
invariant-links l = KeepsForest l.facts l.forest
