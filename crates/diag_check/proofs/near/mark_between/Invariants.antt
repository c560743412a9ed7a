use Rattle.diag_check.specs.Marks.{Adds, IsNearBefore}
use Rattle.diag_check.proofs.near.mark_between.Given as goal

abbrev pub invariant-places : goal.invariant-places
invariant-places l = Adds (IsNearBefore l.shape l.nodes l.wires l.x) l.initial.crosses l.crosses
