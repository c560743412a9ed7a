use Rattle.diag_machine.proofs.Listed.{table_step}
use Rattle.diag_machine.proofs.list.list_tables.Goals as goal

pub tables-preserved : goal.tables-preserved
tables-preserved c = table_step _ _ _ _ _ _ _ _ c.keeps_table.ensures.yes c.keeps_table.ensures.no c.table_unless.ensures.bad c.table_unless.ensures.good c.tables.invariant
