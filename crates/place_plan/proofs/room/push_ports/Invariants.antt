use Rattle.place_plan.proofs.Vocabulary.{◌≡◌, ◌++◌, map, range_with_len, port_by}
use Rattle.place_plan.proofs.room.push_ports.Given as goal

abbrev pub invariant-loop-j : goal.invariant-loop-j
invariant-loop-j l = l.held.items ≡ l.fn.held.items ++ map (port_by l.node l.crossing l.ports) (range_with_len 0 l.j)
