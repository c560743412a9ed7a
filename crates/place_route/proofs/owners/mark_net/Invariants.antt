use Rattle.place_route.proofs.Vocabulary.{take, IsClaimedBy, IsMarked}
use Rattle.place_route.proofs.owners.mark_net.Given as goal

abbrev pub invariant-loop-wire : goal.invariant-loop-wire
invariant-loop-wire l = IsMarked (IsClaimedBy l.net.0 (take l.wire-index l.wires)) l.fn.owners l.owners
