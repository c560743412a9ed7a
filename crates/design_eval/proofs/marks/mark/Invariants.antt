use Rattle.design_eval.proofs.Vocabulary.{◌≡◌, ℕ, ◌<◌, ◌≤◌, ◌%◌, true, false, length, number_at, bit_at}
use Rattle.design_eval.proofs.marks.mark.Given as goal

abbrev pub invariant-keys : goal.invariant-keys
invariant-keys l = (length l.marks ≡ 65536) × ((k : ℕ) → bit_at l.marks k ≡ false → bit_at l.fn.marks k ≡ false) × ((p : ℕ) → l.from ≤ p → p < l.i → bit_at l.marks (number_at l.readers.keys.items p % 65536) ≡ true) × (length l.hints ≡ 1024)
