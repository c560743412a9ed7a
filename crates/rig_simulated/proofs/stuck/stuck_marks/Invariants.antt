use Rattle.rig_simulated.proofs.Vocabulary.{◌≡◌, ℕ, ◌<◌, ◌≤◌, false, length, is_some, stuck_cross, crosses_of}
use Rattle.base_bits.specs.Numbers.{has_number}
use Rattle.rig_simulated.proofs.stuck.stuck_marks.Given as goal

abbrev pub invariant-crosses : goal.invariant-crosses
invariant-crosses l = record {
  len : length l.marks ≡ crosses_of l.faults.shape;
  each : (x : ℕ) → x < l.x → has_number l.marks x ≡ is_some (stuck_cross l.faults.faults x);
  others : (x : ℕ) → l.x ≤ x → has_number l.marks x ≡ false;
}
