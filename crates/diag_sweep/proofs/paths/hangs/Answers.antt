use Rattle.diag_sweep.proofs.Vocabulary.{◌≤◌, ap, arith, wires_of}
use Rattle.diag_sweep.proofs.Coursing.{hung_past}
use Rattle.diag_sweep.proofs.paths.hangs.Goals as goal

pub returns-then-w-wires : goal.returns-then-w-wires
returns-then-w-wires c =
    let many = c.wires.ensures.wires in
    let same = ap wires_of c.shape-shape.ensures.shape in
    hung_past c.args.forest.now c.args.w.0 c.shape-shape.ensures.forest (omega (arith, many, same))
