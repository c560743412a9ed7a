use Rattle.diag_check.proofs.Picking.{IsSought}
use Rattle.diag_check.proofs.picks.next_pick.Given as goal

abbrev pub invariant-positions : goal.invariant-positions
invariant-positions l = IsSought l.shape l.side l.node.0 l.picked.items l.k l.other
