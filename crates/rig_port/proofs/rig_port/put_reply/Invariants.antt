use Rattle.std.proofs.Common.{◌≡◌, length, take}
use Rattle.rig_port.proofs.rig_port.put_reply.Given as goal

abbrev pub invariant-bytes : goal.invariant-bytes
invariant-bytes l = (length l.reply ≡ length l.initial.reply) × (take l.k l.reply ≡ take l.k l.line)
