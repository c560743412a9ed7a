use Rattle.diag_check.proofs.Vocabulary.{◌<◌, length, arith, slice_index_or, slice_get-get_or, Cross}
use Rattle.diag_check.proofs.Fielding.{crosses_next}
use Rattle.diag_check.proofs.fields.add_crosses.Goals as goal

pub crosses-preserved : goal.crosses-preserved
crosses-preserved c =
    let xs = c.args.crosses.now in
    let x : Cross = slice_index_or xs c.crosses.j (record { 0 = 0 }) in
    let within : x.0 < length c.crosses.marks = (let l = c.requires c.crosses.j (record { 0 = 0 }) c.crosses-test.true in let len = c.crosses.invariant.len in omega (arith, l, len)) in
    rw c.insert.ensures (crosses_next xs c.crosses.j x c.crosses.invariant (slice_get-get_or xs c.crosses.j (record { 0 = 0 }) c.crosses-test.true) within)
