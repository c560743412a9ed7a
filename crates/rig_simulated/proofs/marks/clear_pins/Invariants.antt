use Rattle.rig_simulated.proofs.Vocabulary.{◌≡◌, ℕ, true, length, is_low, IsPinOf}
use Rattle.rig_simulated.proofs.marks.clear_pins.Given as goal

abbrev pub invariant-pins : goal.invariant-pins
invariant-pins l = record {
  len : length l.low ≡ length l.fn.low;
  only : (r : ℕ) → is_low l.low r ≡ true → IsPinOf l.pins l.k r;
}
