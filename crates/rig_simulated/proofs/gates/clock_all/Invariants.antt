use Rattle.rig_simulated.proofs.Vocabulary.{◌≡◌, ◌++◌, map, take, drop, level_at, clocked}
use Rattle.rig_simulated.proofs.gates.clock_all.Given as goal

abbrev pub invariant-gates : goal.invariant-gates
invariant-gates l = l.gates ≡ map (clocked l.faults.faults (level_at l.knots l.pins l.tables)) (take l.i l.fn.gates) ++ drop l.i l.fn.gates
