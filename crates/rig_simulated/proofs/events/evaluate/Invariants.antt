use Rattle.rig_simulated.proofs.Vocabulary.{◌≡◌, ◌≤◌, length, level_at, AreFlips, HaveFlips}
use Rattle.rig_simulated.proofs.events.evaluate.Given as goal

abbrev pub invariant-due : goal.invariant-due
invariant-due l = record {
  len : length l.flips.items ≡ length l.fn.flips.items;
  few : l.count ≤ l.i;
  flips : AreFlips l.frame.faults.now.faults (level_at l.frame.knots.now l.frame.low_pins.now l.low_tables) l.gates l.flips.items l.count;
  due : HaveFlips l.frame.faults.now.faults (level_at l.frame.knots.now l.frame.low_pins.now l.low_tables) l.gates l.queue.due.items l.i l.flips.items l.count;
}
