use Rattle.std.proofs.Common.{take}
use Rattle.place_plan.specs.Taps.{AreTaps}
use Rattle.place_plan.proofs.taps.taps_of.Given as goal

abbrev pub invariant-loop-wire : goal.invariant-loop-wire
invariant-loop-wire l = AreTaps l.crossed.tree.now.shape l.crossed.crossing.now l.crossed.ports.now l.node.0 l.net.0 (take l.wire-index l.wires) l.taps
