use Rattle.diag_check.proofs.Vocabulary.{◌≡◌, ◌<◌, length, subst, arith, table_wire, Adds, IsPinOfTable}
use Rattle.diag_check.proofs.Adding.{first_none, first_next}
use Rattle.diag_check.proofs.used.mark_table.Goals as goal

pub pins-init : goal.pins-init
pins-init c = first_none (table_wire c.args.shape.now c.args.table.0)

pub pins-preserved : goal.pins-preserved
pins-preserved c =
    let w = c.pin_of.result.0 in
    let a = c.pins.invariant in
    let within : w < length c.pins.used = (let b = c.pin_of.ensures.within in let e = a.len in let d = c.requires.marks in omega (arith, b, e, d)) in
    rw c.insert.ensures (first_next (table_wire c.args.shape.now c.args.table.0) c.pins.j w a c.pin_of.ensures.wire within)

pub returns : goal.returns
returns c =
    let e : c.pins.j ≡ 7 = omega arith in
    subst (λ n. Adds (IsPinOfTable c.args.shape.now c.args.table.0 n) c.args.used.now c.pins.used) e c.pins.invariant
