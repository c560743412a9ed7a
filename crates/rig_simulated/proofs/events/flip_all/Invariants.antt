use Rattle.rig_simulated.proofs.Vocabulary.{◌≡◌, length, level_at, AreAlike, PutFlips, InputsKept, IsSound}
use Rattle.rig_simulated.proofs.events.flip_all.Given as goal

abbrev pub invariant-flips : goal.invariant-flips
invariant-flips l = record {
  len : length l.low_tables ≡ length l.fn.low_tables;
  readers : l.events.readers ≡ l.fn.events.readers;
  flips : l.events.flips ≡ l.fn.events.flips;
  listed : l.events.listed ≡ l.fn.events.listed;
  sound : IsSound l.gates l.events.readers l.events.queue l.events.pulls.items l.low_tables;
  alike : AreAlike l.fn.gates l.gates;
  put : PutFlips l.fn.gates l.fn.events.flips.items l.count l.j l.gates;
  inputs : InputsKept l.fn.gates l.events.queue.marks.items (level_at l.frame.knots.now l.frame.low_pins.now l.fn.low_tables) (level_at l.frame.knots.now l.frame.low_pins.now l.low_tables);
}
