use Rattle.rig_simulated.proofs.Vocabulary.{◌≡◌, ℕ, ◌<◌, true, length, get_or, slice_index, level_by}
use Rattle.rig_simulated.proofs.driving.show_pins.Given as goal

abbrev pub invariant-pins : goal.invariant-pins
invariant-pins l = record {
  len : length l.levels ≡ length l.pins;
  each : (k : ℕ) → k < l.k → get_or l.levels k true ≡ level_by l.knots l.low (slice_index l.pins k);
}
