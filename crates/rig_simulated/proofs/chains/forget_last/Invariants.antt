use Rattle.rig_simulated.proofs.Vocabulary.{◌≡◌, ℕ, length, AreWithin}
use Rattle.rig_simulated.proofs.Chaining.{AreForgotten}
use Rattle.rig_simulated.proofs.chains.forget_last.Given as goal

abbrev pub invariant-pins : goal.invariant-pins
invariant-pins l = record {
  len : length l.last.items ≡ length l.fn.last.items;
  few : (n : ℕ) → AreWithin l.fn.last.items n → AreWithin l.last.items n;
  none : AreForgotten l.last.items l.pins l.k;
}
