use Rattle.std.proofs.Common.{◌-◌, arith}
use Rattle.machine_shape.proofs.Weighing.{times_are}
use Rattle.machine_shape.proofs.tree.divided.Goals as goal

pub returns-then-thrice-by-clause-left : goal.returns-then-thrice-by-clause-left
returns-then-thrice-by-clause-left c = (times_are c.args.number c.args.by 3 (c.args.number - c.args.by - c.args.by - c.args.by) c.if-thrice-by.true (omega arith)).1
