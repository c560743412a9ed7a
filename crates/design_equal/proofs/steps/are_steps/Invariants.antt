use Rattle.design_equal.proofs.Vocabulary.{◌<◌, ℕ, IsFrom, step_at}
use Rattle.design_equal.proofs.steps.are_steps.Given as goal

abbrev pub invariant-steps : goal.invariant-steps
invariant-steps l = (i : ℕ) → i < l.k → IsFrom l.graph l.pins l.steps i (step_at l.steps i).node (step_at l.steps i).from
