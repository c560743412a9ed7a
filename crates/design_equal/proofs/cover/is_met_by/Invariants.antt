use Rattle.design_equal.proofs.Vocabulary.{◌≡◌, ◌<◌, ℕ, List, length, Graph, IsMetIn, IsPlan}
use Rattle.design_equal.proofs.cover.is_met_by.Given as goal

abbrev pub invariant-passes : goal.invariant-passes
invariant-passes l = (length l.words.items ≡ length l.plan.steps.items) × (length l.signals.items ≡ length l.fn.signals.items)
    × ((g : Graph) (labels : List ℕ) → IsPlan g labels l.cover l.plan → (q : ℕ) → q < l.pass → IsMetIn g l.plan.pins.items labels l.cover q)
