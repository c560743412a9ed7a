use Rattle.design_eval.proofs.Vocabulary.{◌≡◌, ℕ, ◌<◌, ◌≤◌, false, bit_at}
use Rattle.design_eval.proofs.marks.is_one_marked.Given as goal

abbrev pub invariant-marks : goal.invariant-marks
invariant-marks l = l.found ≡ false → (j : ℕ) → l.from ≤ j → j < l.k → bit_at l.marks j ≡ false
