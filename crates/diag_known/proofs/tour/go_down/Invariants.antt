use Rattle.std.proofs.Common.{◌+◌}
use Rattle.diag_known.proofs.Touring.{GoesDown}
use Rattle.diag_known.proofs.tour.go_down.Given as goal

abbrev pub invariant-down : goal.invariant-down
invariant-down l = GoesDown l.facts l.known.steps l.reaches.items l.fn.walk l.fn.w.0 l.walk l.ups.items l.i l.j

abbrev pub decreases-down : goal.decreases-down
decreases-down l = l.i + l.j
