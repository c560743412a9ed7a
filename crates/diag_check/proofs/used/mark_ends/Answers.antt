use Rattle.std.proofs.Common.{◌≡◌, ◌<◌, Some, length, subst, arith, slice_get, slice_index_or}
use Rattle.diag_check.proofs.Vocabulary.{slice_get-get_or, Cross, Adds, IsEndAmong}
use Rattle.diag_check.proofs.Adding.{ends_none, ends_next}
use Rattle.diag_check.proofs.used.mark_ends.Goals as goal

pub crosses-init : goal.crosses-init
crosses-init c = ends_none c.args.shape.now c.args.crosses.now

pub crosses-preserved : goal.crosses-preserved
crosses-preserved c =
    let xs = c.args.crosses.now in
    let x : Cross = slice_index_or xs c.crosses.i (record { 0 = 0 }) in
    let a = c.crosses.invariant in
    let len = a.len in
    let marks = c.requires.marks in
    let tap : c.ends.result.0.0 < length c.crosses.used = (let b = c.ends.ensures.tap in omega (arith, b, len, marks)) in
    let line : c.ends.result.1.0 < length c.crosses.used = (let b = c.ends.ensures.line in omega (arith, b, len, marks)) in
    let here : slice_get xs c.crosses.i ≡ Some x = slice_get-get_or xs c.crosses.i (record { 0 = 0 }) c.crosses-test.true in
    rw (c.insert-in-crosses.ensures, c.insert.ensures) (ends_next c.args.shape.now xs c.crosses.i c.ends.result.0.0 c.ends.result.1.0 x a here c.ends.ensures.ends tap line)

pub returns : goal.returns
returns c =
    let e : c.crosses.i ≡ length c.args.crosses.now = omega arith in
    subst (λ n. Adds (IsEndAmong c.args.shape.now c.args.crosses.now n) c.args.used.now c.crosses.used) e c.crosses.invariant
