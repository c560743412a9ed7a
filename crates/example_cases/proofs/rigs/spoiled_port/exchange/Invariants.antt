use Rattle.std.proofs.Common.{◌≡◌, length}
use Rattle.example_cases.proofs.rigs.spoiled_port.exchange.Given as goal

abbrev pub invariant-bytes : goal.invariant-bytes
invariant-bytes l = length l.line ≡ length l.initial.line
