use Rattle.diag_tests.proofs.Longer.{at_pin_is}
use Rattle.diag_tests.proofs.route.route_at.Goals as goal

pub returns-clause-right : goal.returns-clause-right
returns-clause-right c =
    let within = rw c.pin.ensures.wire at c.pin.ensures.within in
    rw (c.start.ensures, c.pin.ensures.wire) (at_pin_is c.args.shape.now c.args.pin c.requires within)
