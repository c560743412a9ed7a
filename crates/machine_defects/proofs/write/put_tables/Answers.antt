use Rattle.std.specs.FinSet as set
use Rattle.machine_defects.specs.Text.{as_table}
use Rattle.machine_defects.proofs.Writing.{wrote_more}
use Rattle.machine_defects.proofs.write.put_tables.Goals as goal

pub tables-preserved : goal.tables-preserved
tables-preserved c = wrote_more c.args.list.now.shape c.shape-shape.result as_table (set.contains c.args.list.now.list.tables) c.tables.t c.lists_table.result c.args.text.now.items c.tables.text.items c.put_listed.new.text.items c.shape-shape.ensures.shape c.lists_table.ensures c.tables.invariant c.in_ok-put_listed.ensures
