use Rattle.cmd_bench.proofs.Shapes.{makes_shape}
use Rattle.cmd_bench.proofs.work.bench_shape.Goals as goal

pub unreachable-requires : goal.unreachable-requires
unreachable-requires c = makes_shape c.bench_counts.result c.in-Err.field-0 c.bench_counts.ensures c.in-Err.ensures.refused
