use Rattle.design_equal.proofs.Vocabulary.{◌<◌, ℕ, length, number_at, label_at, StandsFor}
use Rattle.design_equal.proofs.steps.are_inputs.Given as goal

abbrev pub invariant-ins : goal.invariant-ins
invariant-ins l = (j : ℕ) → j < l.k → StandsFor l.steps (length l.steps) (number_at l.places j) (label_at l.labels (number_at l.ins j))
