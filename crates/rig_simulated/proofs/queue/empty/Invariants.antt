use Rattle.std.proofs.Common.{◌≡◌, length}
use Rattle.rig_simulated.proofs.Queueing.{AreLeft}
use Rattle.rig_simulated.proofs.queue.empty.Given as goal

abbrev pub invariant-due : goal.invariant-due
invariant-due l = record {
  due : l.queue.due.items ≡ l.fn.queue.due.items;
  len : length l.queue.marks.items ≡ length l.fn.queue.marks.items;
  left : AreLeft l.fn.queue.due.items l.i l.fn.queue.count l.queue.marks.items;
}
