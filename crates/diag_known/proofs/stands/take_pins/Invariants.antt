use Rattle.diag_known.proofs.Vocabulary.{◌≡◌, ◌<◌, ℕ, false, has_number, pin_wire, IsGround, Founds}
use Rattle.diag_known.proofs.stands.take_pins.Given as goal

abbrev pub invariant-pins : goal.invariant-pins
invariant-pins l = record {
  ground : IsGround l.facts l.known l.left l.feet.items;
  founds : Founds l.fn.known l.known l.fn.left l.left l.feet.items l.feet.items;
  taken : (i : ℕ) → i < l.pin → has_number l.left (pin_wire l.facts.shape i) ≡ false;
}
