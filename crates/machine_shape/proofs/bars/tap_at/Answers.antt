use Rattle.std.proofs.Common.{arith}
use Rattle.machine_shape.proofs.Weighing.{child_small}
use Rattle.machine_shape.proofs.bars.tap_at.Goals as goal

pub overflow_mul-result : goal.overflow_mul-result
overflow_mul-result c = let s = child_small c.args.bar c.args.position c.divided-child.result.0 1310720 c.requires.fits c.if-position-bar.false c.requires.within c.divided-child.ensures.times in omega (arith, s)
