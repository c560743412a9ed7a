use Rattle.std.specs.FinSet as set
use Rattle.machine_defects.specs.Text.{as_wire}
use Rattle.machine_defects.proofs.Writing.{wrote_more}
use Rattle.machine_defects.proofs.write.put_wires.Goals as goal

pub wires-preserved : goal.wires-preserved
wires-preserved c = wrote_more c.args.list.now.shape c.shape-shape.result as_wire (set.contains c.args.list.now.list.wires) c.wires.w c.lists_wire.result c.args.text.now.items c.wires.text.items c.put_listed.new.text.items c.shape-shape.ensures.shape c.lists_wire.ensures c.wires.invariant c.in_ok-put_listed.ensures
