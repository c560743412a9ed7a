use Rattle.diag_machine.proofs.Vocabulary.{◌≡◌, ℕ, true, length, has_number, HasWire}
use Rattle.diag_machine.proofs.lost.unfit_wires.Given as goal

abbrev pub invariant-wires : goal.invariant-wires
invariant-wires l = record {
  len : length l.set ≡ l.wires;
  each : (w : ℕ) → has_number l.set w ≡ true → (has_number l.bad.unfit w ≡ true) × (¬ HasWire l.known.steps w);
}
