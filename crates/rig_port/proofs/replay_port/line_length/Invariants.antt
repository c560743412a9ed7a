use Rattle.std.proofs.Common.{◌≢◌, take, All}
use Rattle.rig_port.proofs.replay_port.line_length.Given as goal

abbrev pub invariant-bytes : goal.invariant-bytes
invariant-bytes l = All (λ byte. byte ≢ 10) (take l.k l.bytes)
