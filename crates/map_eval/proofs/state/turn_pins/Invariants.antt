use Rattle.map_eval.proofs.Vocabulary.{◌≡◌, length, AreTurned, AreMarked}
use Rattle.map_eval.proofs.state.turn_pins.Given as goal

abbrev pub invariant-pins : goal.invariant-pins
invariant-pins l = record {
  turned : AreTurned l.pins l.k l.fn.addresses l.addresses;
  len : length l.marks ≡ length l.fn.marks;
  marked : AreMarked l.masks l.fn.addresses l.fn.marks → AreMarked l.masks l.addresses l.marks;
}
