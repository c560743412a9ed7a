use Rattle.std.proofs.Common.{◌≡◌, length}
use Rattle.example_diagnoses.proofs.fields.draw_set.Given as goal

abbrev pub invariant-numbers : goal.invariant-numbers
invariant-numbers l = length l.set ≡ l.len
