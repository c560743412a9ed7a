use Rattle.machine_defects.proofs.Queries.{free_tables_are}
use Rattle.machine_defects.proofs.list.Defects.free_tables.Goals as goal

pub returns : goal.returns
returns c = rw (← c.self.view_is) (free_tables_are c.self.inside.kept c.self.invariant)
