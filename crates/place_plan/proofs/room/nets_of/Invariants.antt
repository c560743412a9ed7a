use Rattle.place_plan.proofs.Vocabulary.{◌≡◌, map, take, net_in}
use Rattle.place_plan.proofs.room.nets_of.Given as goal

abbrev pub invariant-loop-i : goal.invariant-loop-i
invariant-loop-i l = l.nets ≡ map (net_in l.asks) (take l.i-index l.set)
