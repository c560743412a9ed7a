use Rattle.diag_published.proofs.Vocabulary.{◌<◌, All, sym, subst, ◌∙◌, Shape, Wire, pin_wire, wires_of, Trunk, wire_numbers}
use Rattle.diag_published.specs.Bars.{IsAtOneOf, IsListOf, IsTrunkOf}
use Rattle.diag_published.proofs.{Laid.if_some, Laid.if_none, Trunking.pin_end, Trunking.few_pins}
use Rattle.diag_published.proofs.pins.try_pins.Goals as goal

pub grow_pins-requires-clause-pins : goal.grow_pins-requires-clause-pins
grow_pins-requires-clause-pins g c = subst (λ (m : Shape). IsListOf (IsAtOneOf (pin_wire m) c.args.count) (wire_numbers c.in-Ok.pins.items)) c.shape-shape.ensures c.in-Ok.ensures.pins

pub grow_pins-requires-clause-within : goal.grow_pins-requires-clause-within
grow_pins-requires-clause-within g c = subst (λ (m : Shape). All (λ (w : Wire). w.0 < wires_of m) c.in-Ok.pins.items) c.shape-shape.ensures c.in-Ok.ensures.within

pub trunk_of-requires-clause-within : goal.trunk_of-requires-clause-within
trunk_of-requires-clause-within g c = rw c.deref.ensures.value (subst (λ (m : Shape). All (λ (w : Wire). w.0 < wires_of m) c.in-Ok.pins.items) (c.shape-shape.ensures ∙ sym c.in_ok-grow_pins.ensures.advances.more.shape) c.in-Ok.ensures.within)

pub returns-in-Ok-trunk_of-clause-held : goal.returns-in-Ok-trunk_of-clause-held
returns-in-Ok-trunk_of-clause-held g c =
    let same = c.shape-shape.ensures ∙ sym c.in_ok-grow_pins.ensures.advances.more.shape in
    if_some _ (rw (c.in-Ok-trunk_of.is, c.deref.ensures.value) at c.trunk_of.ensures.trunk) (λ (t : Trunk) (trunk : IsTrunkOf c.grow_pins.new.facts c.grow_pins.new.known (wire_numbers c.in-Ok.pins.items) t.left t.right). trunk.held 0
    (pin_end c.grow_pins.new.facts.shape c.args.count (wire_numbers c.in-Ok.pins.items) (rw c.in_ok-grow_pins.ensures.advances.more.shape c.requires.count)
    (subst (λ (m : Shape). IsListOf (IsAtOneOf (pin_wire m) c.args.count) (wire_numbers c.in-Ok.pins.items)) same c.in-Ok.ensures.pins)))

pub returns-in-Ok-trunk_of-clause-none_each : goal.returns-in-Ok-trunk_of-clause-none_each
returns-in-Ok-trunk_of-clause-none_each g c = λ f e. if_none _ (rw (c.in-Ok-trunk_of.is, c.deref.ensures.value) at c.trunk_of.ensures.none) (λ one.
    few_pins _ c.args.facts.now c.grow_pins.new.known c.args.count (wire_numbers c.in-Ok.pins.items) (c.the_laws_hold.ensures c.args.facts.now.shape) c.requires.count
    (subst (λ (m : Shape). IsListOf (IsAtOneOf (pin_wire m) c.args.count) (wire_numbers c.in-Ok.pins.items)) c.shape-shape.ensures c.in-Ok.ensures.pins) (c.in_ok-grow_pins.ensures.found_each f e) one)
