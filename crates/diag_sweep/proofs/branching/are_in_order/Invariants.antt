use Rattle.diag_sweep.proofs.Coursing.{AreInOrder}
use Rattle.diag_sweep.proofs.branching.are_in_order.Given as goal

abbrev pub invariant-leads : goal.invariant-leads
invariant-leads l = record { order : AreInOrder l.met l.leads l.k }
