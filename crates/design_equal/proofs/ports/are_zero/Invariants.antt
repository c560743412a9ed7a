use Rattle.design_equal.proofs.Vocabulary.{◌≡◌, ◌<◌, ℕ, true, bit_at, label_at}
use Rattle.design_equal.proofs.ports.are_zero.Given as goal

abbrev pub invariant-signals : goal.invariant-signals
invariant-signals l = (j : ℕ) → j < l.s → (bit_at l.marks j ≡ true → ⊥) → label_at l.labels j ≡ 0
