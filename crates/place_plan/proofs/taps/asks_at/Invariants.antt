use Rattle.place_plan.specs.Taps.{AreAsksOf}
use Rattle.place_plan.proofs.taps.asks_at.Given as goal

abbrev pub invariant-loop-k : goal.invariant-loop-k
invariant-loop-k l = AreAsksOf l.crossed.tree.now.shape l.nets l.crossed.crossing.now l.crossed.ports.now l.node l.touched l.k-index l.asks.items
