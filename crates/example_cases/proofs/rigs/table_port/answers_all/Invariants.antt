use Rattle.std.proofs.Common.{◌≡◌, true}
use Rattle.example_cases.proofs.rigs.table_port.answers_all.Given as goal

abbrev pub invariant-requests : goal.invariant-requests
invariant-requests g l = (g.P.Port.port_state l.port).is_open ≡ true
