use Rattle.place_route.proofs.Vocabulary.{take, HoldsPort, IsMarked}
use Rattle.place_route.proofs.owners.mark_ports.Given as goal

abbrev pub invariant-loop-port : goal.invariant-loop-port
invariant-loop-port l = IsMarked (HoldsPort (take l.port-index l.ports)) l.fn.owners l.owners
