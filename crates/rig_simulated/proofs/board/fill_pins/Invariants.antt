use Rattle.rig_simulated.proofs.Vocabulary.{◌≡◌, ℕ, ◌<◌, vec_len, All, slice_index, wires_of, pin_wire, HasRoots}
use Rattle.rig_simulated.proofs.board.fill_pins.Given as goal

abbrev pub invariant-pins : goal.invariant-pins
invariant-pins l = record {
  len : vec_len l.pins ≡ l.k;
  within : All (λ r. r < wires_of l.shape) l.pins.items;
  roots : (most : ℕ) (root : ℕ → ℕ) → HasRoots l.knots most root → (k : ℕ) → k < l.k → slice_index l.pins.items k ≡ root (pin_wire l.shape k);
}
