use Rattle.machine_defects.proofs.Queries.{free_pins_are}
use Rattle.machine_defects.proofs.list.Defects.free_pins.Goals as goal

pub returns : goal.returns
returns c = rw (← c.self.view_is) (free_pins_are c.self.inside.kept c.self.invariant)
