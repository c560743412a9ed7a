use Rattle.rig_simulated.proofs.Vocabulary.{◌≡◌, map, take, cross_of, AreClosedBy}
use Rattle.rig_simulated.proofs.closing.close_all.Given as goal

abbrev pub invariant-crosses : goal.invariant-crosses
invariant-crosses l = record {
  closed : AreClosedBy l.faults.shape l.faults.faults l.classes.closed.items l.classes.knots.items;
  same : map cross_of l.classes.closed.items ≡ l.closed.items;
  crosses : l.closed.items ≡ take l.i l.crosses;
}
