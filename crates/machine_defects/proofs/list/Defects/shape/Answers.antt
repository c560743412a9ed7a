use Rattle.machine_defects.proofs.Queries.{is_list}
use Rattle.machine_defects.proofs.list.Defects.shape.Goals as goal

pub returns-clause-kept : goal.returns-clause-kept
returns-clause-kept c = rw (← c.self.view_is) (is_list c.self.inside.kept c.self.invariant)
