use Rattle.std.proofs.Common.{length}
use Rattle.diag_known.proofs.Rising.{IsRising}
use Rattle.diag_known.proofs.known.Known.routes.Given as goal

abbrev pub invariant-up : goal.invariant-up
invariant-up l = IsRising l.facts l.self.steps l.from l.other l.descent.downs.items l.left l.right

abbrev pub decreases-up : goal.decreases-up
decreases-up l = length l.descent.downs.items
