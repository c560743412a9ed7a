use Rattle.std.proofs.Common.{arith}
use Rattle.machine_bench.proofs.Counted.{has_tables}
use Rattle.machine_bench.proofs.faults.draw_table.Goals as goal

pub draw-requires : goal.draw-requires
draw-requires c = λ e. let h = has_tables c.args.shape.now in let q = c.tables.ensures.tables in omega arith
