use Rattle.diag_check.proofs.Vocabulary.{◌≡◌, ◌<◌, length, subst, arith, slice_index, pin_wire, Adds, IsPinAmong}
use Rattle.diag_check.proofs.Adding.{first_none, first_next}
use Rattle.diag_check.proofs.used.mark_pins.Goals as goal

pub pins-init : goal.pins-init
pins-init c = first_none (λ j. pin_wire c.args.shape.now (slice_index c.args.pins.now j))

pub pins-preserved : goal.pins-preserved
pins-preserved c =
    let w = c.pin.result.0 in
    let a = c.pins.invariant in
    let within : w < length c.pins.used = (let b = c.pin.ensures.within in let e = a.len in let d = c.requires.marks in omega (arith, b, e, d)) in
    rw c.insert.ensures (first_next (λ j. pin_wire c.args.shape.now (slice_index c.args.pins.now j)) c.pins.i w a c.pin.ensures.wire within)

pub returns : goal.returns
returns c =
    let e : c.pins.i ≡ length c.args.pins.now = omega arith in
    subst (λ n. Adds (IsPinAmong c.args.shape.now c.args.pins.now n) c.args.used.now c.pins.used) e c.pins.invariant
