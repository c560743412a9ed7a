use Rattle.std.proofs.Common.{arith}
use Rattle.diag_known.proofs.Touring.{leads_less}
use Rattle.diag_known.proofs.tour.places_below.Goals as goal

pub returns-then-down-clause-less : goal.returns-then-down-clause-less
returns-then-down-clause-less c = let less = leads_less c.requires.known (c.requires.before.left c.if-down.true) c.place-below.ensures in omega (arith, less)

pub returns-else-down-clause-less : goal.returns-else-down-clause-less
returns-else-down-clause-less c = let less = leads_less c.requires.known (c.requires.before.right c.if-down.false) c.place-below.ensures in omega (arith, less)
