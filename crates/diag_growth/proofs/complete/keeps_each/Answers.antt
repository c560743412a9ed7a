use Rattle.diag_growth.proofs.Vocabulary.{◌<◌, arith, number_within}
use Rattle.diag_growth.proofs.complete.keeps_each.Goals as goal

pub returns : goal.returns
returns c = λ _ x h.
    let end = c.len-x-end.ensures in
    let within : x < c.crosses.x = (let l = number_within c.args.field.now.crosses x h in omega (arith, l, end)) in
    c.crosses.invariant x within h
