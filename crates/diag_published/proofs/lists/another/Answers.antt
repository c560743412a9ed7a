use Rattle.diag_published.proofs.Listing.{wire_at}
use Rattle.diag_published.proofs.lists.another.Goals as goal

pub returns-then-wire-first-clause-some : goal.returns-then-wire-first-clause-some
returns-then-wire-first-clause-some c = (wire_at c.args.wires.now c.wires.wire-index _ c.wires-test.true, c.if-wire-first.true)
