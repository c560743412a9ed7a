use Rattle.rig_simulated.proofs.Vocabulary.{◌≡◌, ℕ, ◌<◌, vec_len, stuck_wire, knot_at}
use Rattle.rig_simulated.proofs.base.lone_nodes.Given as goal

abbrev pub invariant-wires : goal.invariant-wires
invariant-wires l = record {
  so_far : vec_len l.knots ≡ l.w;
  each : (k : ℕ) → k < l.w → knot_at l.knots.items k ≡ record { parent = k; rank = 0; held = stuck_wire l.faults.faults k };
}
