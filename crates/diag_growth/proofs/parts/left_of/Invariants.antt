use Rattle.diag_growth.proofs.Vocabulary.{◌<◌, ℕ, LeavesAt}
use Rattle.diag_growth.proofs.parts.left_of.Given as goal

abbrev pub invariant-places : goal.invariant-places
invariant-places l = (j : ℕ) → j < l.i → LeavesAt l.facts l.known.steps l.w.0 l.wires.items j
