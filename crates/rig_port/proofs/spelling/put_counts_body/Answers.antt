use Rattle.std.proofs.Common.{arith}
use Rattle.rig_port.proofs.spelling.put_counts_body.Goals as goal

pub returns-clause-right : goal.returns-clause-right
returns-clause-right c = record { ports = omega arith; lines = omega arith; small = c.in_ok-put_numbers.ensures.small }
