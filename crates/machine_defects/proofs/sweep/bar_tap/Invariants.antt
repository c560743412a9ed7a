use Rattle.machine_defects.proofs.Vocabulary.{◌≡◌, ◌<◌, ends_of, node_of_cross, line_position, IsSwept}
use Rattle.machine_defects.proofs.sweep.bar_tap.Given as goal

abbrev pub invariant-lines : goal.invariant-lines
invariant-lines l = IsSwept l.shape l.fn.w.0 (λ x. (node_of_cross l.shape x ≡ l.fn.n.0) × ((ends_of l.shape x).0 ≡ l.fn.w.0) × (line_position l.shape x < l.i)) l.fn.crosses l.fn.barred l.crosses l.barred l.shut
