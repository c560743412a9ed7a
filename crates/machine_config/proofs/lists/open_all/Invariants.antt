use Rattle.machine_config.proofs.Vocabulary.{◌≡◌, ◌<◌, length, All, vec_capacity, AreMarked}
use Rattle.machine_config.proofs.lists.open_all.Given as goal

abbrev pub invariant-loop-c : goal.invariant-loop-c
invariant-loop-c l = AreMarked l.marks l.closed.items × All (λ c. c.0 < length l.marks) l.closed.items × (length l.marks ≡ length l.initial.marks) × (vec_capacity l.closed ≡ vec_capacity l.initial.closed)

abbrev pub decreases-loop-c : goal.decreases-loop-c
decreases-loop-c l = goal.left-loop-c l
