use Rattle.std.proofs.Common.{◌≡◌}
use Rattle.example_diagnoses.proofs.faults.draw_faults.Given as goal

abbrev pub invariant-faults : goal.invariant-faults
invariant-faults l = l.set.shape ≡ l.shape
