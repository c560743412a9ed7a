use Rattle.diag_machine.proofs.Vocabulary.{◌≡◌, true, length, AreLeftOut}
use Rattle.diag_machine.proofs.lost.lost_pins.Given as goal

abbrev pub invariant-wires : goal.invariant-wires
invariant-wires l = record {
  len : length l.pins ≡ l.wires;
  some : l.some ≡ true → AreLeftOut l.facts l.known.steps;
}
