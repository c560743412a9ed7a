use Rattle.std.proofs.Common.{arith}
use Rattle.machine_image.proofs.Heads.{counts_listed}
use Rattle.machine_image.proofs.read.counts_of.Goals as goal

pub returns : goal.returns
returns c = counts_listed c.args.shape.now c.counts-c.result c.counts-c.ensures (omega arith) (omega arith)
