use Rattle.std.proofs.Common.{length}
use Rattle.diag_known.proofs.Touring.{GoesUp}
use Rattle.diag_known.proofs.tour.go_up.Given as goal

abbrev pub invariant-up : goal.invariant-up
invariant-up l = GoesUp l.facts l.reaches.items l.fn.walk l.fn.w.0 l.walk l.ups.items

abbrev pub decreases-up : goal.decreases-up
decreases-up l = length l.ups.items
