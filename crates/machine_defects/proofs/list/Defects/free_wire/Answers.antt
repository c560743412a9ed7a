use Rattle.machine_defects.proofs.Queries.{free_wire_is}
use Rattle.machine_defects.proofs.list.Defects.free_wire.Goals as goal

pub returns : goal.returns
returns c = rw (← c.self.view_is) (free_wire_is c.self.inside.kept c.self.invariant c.args.w.0 c.has.result c.has.ensures)
