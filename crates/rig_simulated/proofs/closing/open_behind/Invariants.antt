use Rattle.rig_simulated.proofs.Vocabulary.{◌≡◌, ◌≤◌, length, take, AreOpenable, StaysClosed}
use Rattle.rig_simulated.proofs.closing.open_behind.Given as goal

abbrev pub invariant-behind : goal.invariant-behind
invariant-behind l = record {
  count : l.count ≤ length l.classes.closed.items;
  openable : AreOpenable l.classes.closed.items l.classes.knots.items;
  stays : StaysClosed l.fn.classes l.classes;
  closed : l.classes.closed.items ≡ take (length l.classes.closed.items) l.fn.classes.closed.items;
}

abbrev pub decreases-behind : goal.decreases-behind
decreases-behind l = length l.classes.closed.items
