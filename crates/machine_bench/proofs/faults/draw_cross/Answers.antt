use Rattle.std.proofs.Common.{arith}
use Rattle.machine_bench.proofs.Counted.{has_crosses}
use Rattle.machine_bench.proofs.faults.draw_cross.Goals as goal

pub draw-requires : goal.draw-requires
draw-requires c = λ e. let h = has_crosses c.args.shape.now in let q = c.crosses.ensures.crosses in omega arith
