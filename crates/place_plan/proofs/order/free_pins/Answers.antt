use Rattle.std.proofs.Common.{◌≡◌, ℕ, true, refl, ap, ◌∙◌, subst, arith, ◌↔◌}
use Rattle.place_plan.proofs.Vocabulary.{Shape, IsFreeWire, pins_of, pin_wire, same_number, IsFreePin}
use Rattle.place_plan.proofs.Sieves.{tested_step, sieve_end}
use Rattle.place_plan.proofs.order.free_pins.Goals as goal

pub loop-k-preserved : goal.loop-k-preserved
loop-k-preserved c =
    let m = c.args.defects.now.shape in
    let k : ℕ = c.loop-k.k in
    let wire : c.pin.result.0 ≡ pin_wire m k = c.pin.ensures.wire ∙ ap (λ (z : Shape). pin_wire z k) c.shape-shape.ensures.shape in
    let is : (c.free_wire.result ≡ true) ↔ IsFreePin m c.args.defects.now.list k = subst (λ z. (c.free_wire.result ≡ true) ↔ IsFreeWire c.args.defects.now.list z) wire c.free_wire.ensures in
    tested_step same_number (IsFreePin m c.args.defects.now.list) k k c.free_wire.result c.loop-k.pins c.push_if.new.numbers (λ j l. l) refl is c.in_ok-push_if.ensures c.loop-k.invariant

pub returns : goal.returns
returns c =
    let m = c.args.defects.now.shape in
    sieve_end (IsFreePin m c.args.defects.now.list) c.loop-k.k c.pins-k-end.result (pins_of m) c.loop-k.pins (omega arith) (c.pins-k-end.ensures.pins ∙ ap pins_of c.shape-shape.ensures.shape) c.loop-k.invariant
