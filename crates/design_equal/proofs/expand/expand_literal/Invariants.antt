use Rattle.design_equal.proofs.Vocabulary.{◌≡◌, ℕ, Bool, IsValued, literal_in, work_holds}
use Rattle.design_equal.proofs.expand.expand_literal.Given as goal

abbrev pub invariant-steps : goal.invariant-steps
invariant-steps l = (bits : ℕ → Bool) → IsValued l.graph bits → work_holds bits l.work ≡ literal_in bits l.root
