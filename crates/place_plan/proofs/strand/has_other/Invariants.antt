use Rattle.place_plan.proofs.Vocabulary.{take, All, IsAt}
use Rattle.place_plan.proofs.strand.has_other.Given as goal

abbrev pub invariant-loop-wire : goal.invariant-loop-wire
invariant-loop-wire l = All (λ w. IsAt l.tree.shape l.node w l.strand) (take l.wire-index l.wires)
