use Rattle.design_eval.proofs.Vocabulary.{◌≡◌, ℕ, ◌<◌, true, length, bit_at}
use Rattle.design_eval.proofs.marks.mark_all.Given as goal

abbrev pub invariant-marks : goal.invariant-marks
invariant-marks l = (length l.marks ≡ 65536) × ((j : ℕ) → j < l.k → bit_at l.marks j ≡ true)
