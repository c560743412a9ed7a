use Rattle.diag_growth.proofs.Vocabulary.{◌<◌, arith, number_within}
use Rattle.diag_growth.proofs.complete.knows_each.Goals as goal

pub returns : goal.returns
returns c = λ _ w h.
    let end = c.len-w-end.ensures in
    let within : w < c.wires.w = (let l = number_within c.args.field.now.wires w h in omega (arith, l, end)) in
    c.wires.invariant w within h
