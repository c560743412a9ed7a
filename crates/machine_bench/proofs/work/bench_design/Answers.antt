use Rattle.std.specs.Fmt.{digits}
use Rattle.machine_bench.proofs.work.bench_design.Goals as goal

pub returns : goal.returns
unfolding digits
returns c = c.from_slice.ensures.items
