use Rattle.diag_known.proofs.Places.{pin_here}
use Rattle.diag_known.proofs.descents.pin_at.Goals as goal

pub returns-in-Pin : goal.returns-in-Pin
returns-in-Pin c = pin_here c.requires.known c.args.i c.step_at.result c.in-Pin.pin c.step_at.ensures c.in-Pin.is
