use Rattle.std.proofs.Common.{◌≡◌, ◌<◌, ℕ, length, get_or, sym, ap, ◌∙◌, subst, arith}
use Rattle.place_repair.proofs.Vocabulary.{get_or_read, Shape, pin_wire, pins_of, wires_of, nth_of, IsAdded, IsFirstPinTerminal, IsMovedTo}
use Rattle.place_repair.proofs.Adding.{added_none, no_pins, pins_more, pins_all}
use Rattle.place_repair.proofs.terminals.add_pins.Goals as goal

pub index-to-requires : goal.index-to-requires
index-to-requires c =
    let pin : ℕ = get_or c.args.pins.now c.loop-i.i 0 in
    let sized : length c.args.plan.now.pins.items ≡ pins_of c.args.config.now.config.shape = c.requires.plan.pins_sized in
    let within : pin < pins_of c.args.config.now.config.shape = c.requires.within c.loop-i.i 0 c.loop-i-test.true in
    omega (arith, sized, within)

pub pin-requires : goal.pin-requires
pin-requires c = subst (λ (m : Shape). get_or c.args.pins.now c.loop-i.i 0 < pins_of m) (sym c.shape-shape.ensures.shape) (c.requires.within c.loop-i.i 0 c.loop-i-test.true)

pub pin-requires-in-loop-i : goal.pin-requires-in-loop-i
pin-requires-in-loop-i c =
    let p = c.args.plan.now in
    let pin : ℕ = get_or c.args.pins.now c.loop-i.i 0 in
    let here : pin < pins_of c.args.config.now.config.shape = c.requires.within c.loop-i.i 0 c.loop-i-test.true in
    let within : pin < length p.pins.items = subst (λ n. pin < n) (sym c.requires.plan.pins_sized) here in
    let place : c.index-to.result.now ≡ nth_of p.pins.items pin = get_or_read p.pins.items _ _ within c.index-to.ensures 0 in
    subst (λ n. n < pins_of c.shape-shape.result) (sym place) (subst (λ (m : Shape). nth_of p.pins.items pin < pins_of m) (sym c.shape-shape.ensures.shape) (c.requires.plan.pins_within pin here))

pub add_moved-requires-clause-within : goal.add_moved-requires-clause-within
add_moved-requires-clause-within c = subst (λ (m : Shape). c.pin.result.0 < wires_of m) c.shape-shape.ensures.shape c.pin.ensures.within

pub add_moved-requires-clause-sized : goal.add_moved-requires-clause-sized
add_moved-requires-clause-sized c = c.loop-i.invariant.sized ∙ c.requires.sized

pub loop-i-init : goal.loop-i-init
loop-i-init c = added_none (IsFirstPinTerminal c.args.config.now.config c.args.plan.now c.args.pins.now 0) c.args.lists.now (no_pins c.args.config.now.config c.args.plan.now c.args.pins.now)

pub loop-i-preserved : goal.loop-i-preserved
loop-i-preserved c =
    let g = c.args.config.now.config in
    let p = c.args.plan.now in
    let pin : ℕ = get_or c.args.pins.now c.loop-i.i 0 in
    let within : pin < length p.pins.items = subst (λ n. pin < n) (sym c.requires.plan.pins_sized) (c.requires.within c.loop-i.i 0 c.loop-i-test.true) in
    let place : c.index-to.result.now ≡ nth_of p.pins.items pin = get_or_read p.pins.items _ _ within c.index-to.ensures 0 in
    let from : c.pin.result.0 ≡ pin_wire g.shape pin = c.pin.ensures.wire ∙ ap (λ (m : Shape). pin_wire m pin) c.shape-shape.ensures.shape in
    let to : c.pin-in-loop-i.result.0 ≡ pin_wire g.shape (nth_of p.pins.items pin) = c.pin-in-loop-i.ensures.wire ∙ ap (pin_wire c.shape-shape.result) place ∙ ap (λ (m : Shape). pin_wire m (nth_of p.pins.items pin)) c.shape-shape.ensures.shape in
    pins_more g p c.args.pins.now c.loop-i.i c.args.lists.now c.loop-i.lists c.add_moved.new.lists c.loop-i.invariant
    (subst (λ w. IsAdded (IsMovedTo g p w (pin_wire g.shape (nth_of p.pins.items pin))) c.loop-i.lists c.add_moved.new.lists) from
    (subst (λ w. IsAdded (IsMovedTo g p c.pin.result.0 w) c.loop-i.lists c.add_moved.new.lists) to c.in_ok-add_moved.ensures))

pub returns : goal.returns
returns c = pins_all c.args.config.now.config c.args.plan.now c.args.pins.now c.loop-i.i (omega arith) (omega arith) c.args.lists.now c.loop-i.lists c.loop-i.invariant
