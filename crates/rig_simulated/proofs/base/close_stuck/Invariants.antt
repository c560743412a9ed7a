use Rattle.rig_simulated.proofs.Vocabulary.{◌≡◌, ◌+◌, length, stuck_wire, AreTied, stuck_net}
use Rattle.rig_simulated.proofs.base.close_stuck.Given as goal

abbrev pub invariant-crosses : goal.invariant-crosses
invariant-crosses l = record {
  len : length l.knots ≡ length l.fn.knots;
  tied : AreTied (stuck_net l.faults.shape l.faults.faults l.x) (stuck_wire l.faults.faults) l.knots (16777216 + l.x);
}
