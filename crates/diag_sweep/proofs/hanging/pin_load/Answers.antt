use Rattle.std.proofs.Common.{refl}
use Rattle.diag_sweep.proofs.{Going.yet_itself, HungOn.plain_goes}
use Rattle.diag_sweep.proofs.hanging.pin_load.Goals as goal

pub returns-clause-goes : goal.returns-clause-goes
returns-clause-goes g c = plain_goes 1 c.requires.hand (c.if-not-can_pay.ensures refl) c.look_each.ensures.loads c.look_each.ensures.advances.more c.look_each.ensures.advances.explained
