use Rattle.place_plan.proofs.Vocabulary.{take, All, IsInside}
use Rattle.place_plan.proofs.strand.leaves.Given as goal

abbrev pub invariant-loop-wire : goal.invariant-loop-wire
invariant-loop-wire l = All (IsInside l.tree.shape l.node) (take l.wire-index l.wires)
