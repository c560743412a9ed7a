use Rattle.std.proofs.Common.{◌≡◌, ◌<◌, length, rules, arith}
use Rattle.diag_sweep.proofs.Sheeted.{tables_on}
use Rattle.diag_sweep.proofs.fits.are_fit.Goals as goal

pub returns : goal.returns
returns c =
    let six : length c.deref.result.now ≡ 6 = rw c.deref.ensures.value (first_of (omega arith, search rules, grind arith)) in
    let some : 0 < length c.args.tables.now = first_of (omega arith, search rules, grind arith) in
    λ yes. tables_on six (c.are_on.ensures yes) some
