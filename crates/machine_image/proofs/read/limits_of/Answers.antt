use Rattle.std.proofs.Common.{◌<◌, All, subst, arith}
use Rattle.machine_image.proofs.read.limits_of.Goals as goal

pub returns : goal.returns
returns c = record {
  counts = subst (All (λ n. n < 65536)) c.counts_of-counts.ensures c.are_small.ensures;
  pins = omega (arith, c.pins-pins.ensures.pins, c.pins-pins.ensures.most);
  tables = omega (arith, c.tables-tables.ensures.tables, c.tables-tables.ensures.few);
  ticks = (c.limits_are_high.ensures c.args.shape.now).ticks.1;
  crosses = omega (arith, c.crosses-crosses.ensures.crosses, c.crosses-crosses.ensures.few);
}
