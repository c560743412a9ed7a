use Rattle.rig_simulated.proofs.Vocabulary.{◌≡◌, ◌++◌, false, map, take, drop, level_at, ticked}
use Rattle.rig_simulated.proofs.gates.tick_all.Given as goal

abbrev pub invariant-gates : goal.invariant-gates
invariant-gates l = record {
  next : l.gates ≡ map (ticked l.faults.faults (level_at l.knots l.pins l.tables)) (take l.i l.fn.gates) ++ drop l.i l.fn.gates;
  same : l.changed ≡ false → l.gates ≡ l.fn.gates;
}
