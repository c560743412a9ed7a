use Rattle.diag_growth.proofs.Vocabulary.{◌<◌, arith}
use Rattle.diag_growth.proofs.Remaining.{same_marks}
use Rattle.diag_growth.proofs.rest.same_wires.Goals as goal

pub returns : goal.returns
returns c = same_marks _ _ c.wires.invariant.len (λ i less. c.wires.invariant.same i
    (let len = c.wires.invariant.len in let end = c.len-w-end.ensures in let low : i < c.wires.w = omega (arith, less, len, end) in low))
