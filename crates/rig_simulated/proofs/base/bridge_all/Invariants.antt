use Rattle.rig_simulated.proofs.Vocabulary.{◌≡◌, length, take, stuck_wire, AreTied, bridged_net}
use Rattle.rig_simulated.proofs.base.bridge_all.Given as goal

abbrev pub invariant-bridges : goal.invariant-bridges
invariant-bridges l = record {
  len : length l.knots ≡ length l.fn.knots;
  tied : AreTied (bridged_net l.faults.shape (take l.i l.bridges)) (stuck_wire l.faults.faults) l.knots l.i;
}
