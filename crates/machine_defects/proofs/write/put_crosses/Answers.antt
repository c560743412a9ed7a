use Rattle.std.specs.FinSet as set
use Rattle.machine_defects.specs.Text.{as_cross}
use Rattle.machine_defects.proofs.Writing.{wrote_more}
use Rattle.machine_defects.proofs.write.put_crosses.Goals as goal

pub crosses-preserved : goal.crosses-preserved
crosses-preserved c = wrote_more c.args.list.now.shape c.shape-shape.result as_cross (set.contains c.args.list.now.list.crosses) c.crosses.x c.lists_cross.result c.args.text.now.items c.crosses.text.items c.put_listed.new.text.items c.shape-shape.ensures.shape c.lists_cross.ensures c.crosses.invariant c.in_ok-put_listed.ensures
