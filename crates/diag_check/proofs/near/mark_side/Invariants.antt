use Rattle.diag_check.proofs.Vocabulary.{Adds, IsAmongFirst, side_wire}
use Rattle.diag_check.proofs.near.mark_side.Given as goal

abbrev pub invariant-positions : goal.invariant-positions
invariant-positions l = Adds (IsAmongFirst (side_wire l.shape l.side l.node.0) l.k) l.initial.wires l.wires
