use Rattle.std.proofs.Common.{arith}
use Rattle.machine_bench.proofs.Counted.{has_wires}
use Rattle.machine_bench.proofs.faults.draw_wire.Goals as goal

pub draw-requires : goal.draw-requires
draw-requires c = λ e. let h = has_wires c.args.shape.now in let q = c.wires.ensures.wires in omega arith
