use Rattle.std.proofs.Common.{◌≡◌, length}
use Rattle.example_cases.proofs.rigs.talk.row_of.Given as goal

abbrev pub invariant-pins : goal.invariant-pins
invariant-pins l = length l.row ≡ l.fn.pins
