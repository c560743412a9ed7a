use Rattle.rig_simulated.proofs.Vocabulary.{◌≡◌, length, AreWithin}
use Rattle.rig_simulated.proofs.Chaining.{AreLinked}
use Rattle.rig_simulated.proofs.chains.link_pins.Given as goal

abbrev pub invariant-pins : goal.invariant-pins
invariant-pins l = record {
  before : length l.chains.before.items ≡ length l.pins;
  last : length l.chains.last.items ≡ length l.fn.chains.last.items;
  few : AreWithin l.chains.last.items (length l.pins);
  linked : AreLinked l.pins l.chains.last.items l.chains.before.items l.k;
}
