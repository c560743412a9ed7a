use Rattle.std.proofs.Common.{arith}
use Rattle.rig_port.proofs.Replayed.{none_at_end}
use Rattle.rig_port.proofs.replay_port.line_length.Goals as goal

pub returns-clause-none : goal.returns-clause-none
returns-clause-none c = λ line rest is at. none_at_end c.bytes.k c.args.bytes.now line rest (omega (arith, c.bytes-test.false)) c.bytes.invariant is at
