use Rattle.machine_defects.proofs.Vocabulary.{◌≡◌, ◌<◌, ends_of, node_of_cross, tap_position, IsSwept}
use Rattle.machine_defects.proofs.sweep.bar_line.Given as goal

abbrev pub invariant-taps : goal.invariant-taps
invariant-taps l = IsSwept l.shape l.fn.w.0 (λ x. (node_of_cross l.shape x ≡ l.fn.n.0) × ((ends_of l.shape x).1 ≡ l.fn.w.0) × (tap_position l.shape x < l.i)) l.fn.crosses l.fn.barred l.crosses l.barred l.shut
