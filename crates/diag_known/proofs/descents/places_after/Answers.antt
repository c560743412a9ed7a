use Rattle.std.proofs.Common.{sym, arith}
use Rattle.diag_known.proofs.Places.{leads_below}
use Rattle.diag_known.proofs.descents.places_after.Goals as goal

pub returns-then-down-clause-less : goal.returns-then-down-clause-less
returns-then-down-clause-less c =
    let below = leads_below c.requires.known (c.requires.two).1 (c.requires.down.left c.if-down.true) c.place-below.ensures in let less = below.less in omega (arith, less)

pub returns-else-down-clause-two : goal.returns-else-down-clause-two
returns-else-down-clause-two c =
    let below = leads_below c.requires.known (c.requires.two).0 (c.requires.down.right c.if-down.false) c.place-below.ensures in
    let two = below.two in (two.1, two.0, λ e. two.2 (sym e))

pub returns-else-down-clause-less : goal.returns-else-down-clause-less
returns-else-down-clause-less c =
    let below = leads_below c.requires.known (c.requires.two).0 (c.requires.down.right c.if-down.false) c.place-below.ensures in let less = below.less in omega (arith, less)
