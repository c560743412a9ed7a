use Rattle.design_eval.proofs.Vocabulary.{◌≡◌, ℕ, ◌<◌, ◌≤◌, false, bit_at}
use Rattle.design_eval.proofs.latches.differ.Given as goal

abbrev pub invariant-bits : goal.invariant-bits
invariant-bits l = l.found ≡ false → (j : ℕ) → l.from ≤ j → j < l.k → bit_at l.left j ≡ bit_at l.right j
