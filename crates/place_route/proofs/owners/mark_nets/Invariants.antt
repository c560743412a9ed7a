use Rattle.place_route.specs.Owners.{IsMarked}
use Rattle.place_route.proofs.Marking.{IsBefore}
use Rattle.place_route.proofs.owners.mark_nets.Given as goal

abbrev pub invariant-loop-k : goal.invariant-loop-k
invariant-loop-k l = IsMarked (IsBefore l.nets l.k) l.fn.owners l.owners
