use Rattle.std.proofs.Common.{◌≡◌, take}
use Rattle.rig_port.proofs.transcript.copied.Given as goal

abbrev pub invariant-bytes : goal.invariant-bytes
invariant-bytes l = l.copy.items ≡ take l.k l.bytes
