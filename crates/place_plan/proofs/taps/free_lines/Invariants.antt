use Rattle.machine_shape.specs.Shape.{line_at}
use Rattle.place_plan.proofs.Vocabulary.{IsFreeWire, AreWires, AreThose, IsAmongFirst}
use Rattle.place_plan.proofs.taps.free_lines.Given as goal

abbrev pub invariant-loop-k : goal.invariant-loop-k
invariant-loop-k l = record {
  lines : AreThose (IsAmongFirst (line_at l.defects.shape l.node) l.k (IsFreeWire l.defects.list)) l.lines;
  within : AreWires l.defects.shape l.lines;
}
