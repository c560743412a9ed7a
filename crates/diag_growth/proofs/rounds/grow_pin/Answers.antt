use Rattle.std.proofs.Common.{◌∙◌, ◌<◌, refl, sym, ap, subst, inl, inr, arith}
use Rattle.diag_growth.proofs.Vocabulary.{has_number, Shape, pin_wire, wires_of, more_itself, IsFieldOf, HasWire, Marks, on_ok_so}
use Rattle.diag_growth.proofs.{Circling.grown_at, Circling.pin_grows, Circling.pin_marks, Circling.pin_has, Explained.held}
use Rattle.diag_known.proofs.Marking.{few_none, few_then, few_barred, spends_none, spends_then, spends_barred, takes_two}
use Rattle.diag_growth.proofs.Stages.{grows_itself, grows_then, grown_on, longer, tried_none, tried_one, tried_then}
use Rattle.diag_growth.proofs.rounds.grow_pin.Goals as goal

pub has-requires : goal.has-requires
has-requires g c = subst (λ n. c.pin-wire.result.0 < n) (sym c.requires.marks.barred) (subst (λ (m : Shape). c.pin-wire.result.0 < wires_of m) c.shape.ensures c.pin-wire.ensures.within)

pub has-requires-2 : goal.has-requires-2
has-requires-2 g c = subst (λ (m : Shape). c.pin-wire.result.0 < wires_of m) (c.shape.ensures ∙ sym c.requires.known.shape) c.pin-wire.ensures.within

pub returns-then-has-clause-grows : goal.returns-then-has-clause-grows
returns-then-has-clause-grows g c = grows_itself c.requires.known (more_itself c.args.facts.now) c.requires.all refl

pub returns-then-has-clause-tried_each : goal.returns-then-has-clause-tried_each
returns-then-has-clause-tried_each g c = λ f e marks. tried_none refl

pub returns-then-has-clause-grown_each : goal.returns-then-has-clause-grown_each
returns-then-has-clause-grown_each g c = λ f e marks grown. grown

pub returns-then-has-clause-spends_each : goal.returns-then-has-clause-spends_each
returns-then-has-clause-spends_each g c = λ f e marks. few_none refl refl

pub returns-then-has-2-clause-grows : goal.returns-then-has-2-clause-grows
returns-then-has-2-clause-grows g c = grows_itself c.requires.known (more_itself c.args.facts.now) c.requires.all refl

pub returns-then-has-2-clause-tried_each : goal.returns-then-has-2-clause-tried_each
returns-then-has-2-clause-tried_each g c = λ f e marks. tried_none refl

pub returns-then-has-2-clause-grown_each : goal.returns-then-has-2-clause-grown_each
returns-then-has-2-clause-grown_each g c = λ f e marks grown. grown

pub returns-then-has-2-clause-spends_each : goal.returns-then-has-2-clause-spends_each
returns-then-has-2-clause-spends_each g c = λ f e marks. few_none refl refl

pub returns-then-has-clause-pin : goal.returns-then-has-clause-pin
returns-then-has-clause-pin g c = inr (ap (has_number c.args.marks.now.barred) (sym (c.pin-wire.ensures.wire ∙ ap (λ m. pin_wire m c.args.pin) c.shape.ensures)) ∙ sym c.has.ensures ∙ c.if-has.true)

pub returns-then-has-2-clause-pin : goal.returns-then-has-2-clause-pin
returns-then-has-2-clause-pin g c = inl (subst (HasWire c.args.known.now.steps) (c.pin-wire.ensures.wire ∙ ap (λ m. pin_wire m c.args.pin) c.shape.ensures) (c.has-2.ensures.known c.if-has-2.true))

pub try_pin-requires-clause-new : goal.try_pin-requires-clause-new
try_pin-requires-clause-new g c = subst (λ w. ¬ HasWire c.args.known.now.steps w) (c.pin-wire.ensures.wire ∙ ap (λ m. pin_wire m c.args.pin) c.shape.ensures) (c.has-2.ensures.unknown c.if-has-2.false)

pub try_pin-requires-clause-first : goal.try_pin-requires-clause-first
try_pin-requires-clause-first g c = ap (has_number c.args.marks.now.barred) (sym (c.pin-wire.ensures.wire ∙ ap (λ m. pin_wire m c.args.pin) c.shape.ensures)) ∙ sym c.has.ensures ∙ c.if-has.false

pub returns-in_err-try_pin-clause-grows : goal.returns-in_err-try_pin-clause-grows
returns-in_err-try_pin-clause-grows g c = pin_grows c.requires.marks (subst (λ w. w < wires_of c.args.facts.now.shape) (c.pin-wire.ensures.wire ∙ ap (λ m. pin_wire m c.args.pin) c.shape.ensures) (subst (λ (m : Shape). c.pin-wire.result.0 < wires_of m) c.shape.ensures c.pin-wire.ensures.within)) (ap (has_number c.args.marks.now.barred) (sym (c.pin-wire.ensures.wire ∙ ap (λ m. pin_wire m c.args.pin) c.shape.ensures)) ∙ sym c.has.ensures ∙ c.if-has.false) c.try_pin.ensures.known c.try_pin.ensures.all c.try_pin.ensures.more c.try_pin.ensures.barred

pub returns-in_err-try_pin-clause-spends_each : goal.returns-in_err-try_pin-clause-spends_each
returns-in_err-try_pin-clause-spends_each g c = λ f e marks. few_barred _ _ c.requires.marks (subst (λ w. w < wires_of c.args.facts.now.shape) (c.pin-wire.ensures.wire ∙ ap (λ m. pin_wire m c.args.pin) c.shape.ensures) (subst (λ (m : Shape). c.pin-wire.result.0 < wires_of m) c.shape.ensures c.pin-wire.ensures.within)) (ap (has_number c.args.marks.now.barred) (sym (c.pin-wire.ensures.wire ∙ ap (λ m. pin_wire m c.args.pin) c.shape.ensures)) ∙ sym c.has.ensures ∙ c.if-has.false) c.try_pin.ensures.barred (takes_two c.try_pin.ensures.loads)

pub look_on-requires-clause-field : goal.look_on-requires-clause-field
look_on-requires-clause-field g c = subst (λ (m : Shape). IsFieldOf m c.args.field.now) (sym c.try_pin.ensures.advances.more.shape) c.requires.field

pub look_on-requires-clause-from : goal.look_on-requires-clause-from
look_on-requires-clause-from g c =
    let long = longer (pin_grows c.requires.marks (subst (λ w. w < wires_of c.args.facts.now.shape) (c.pin-wire.ensures.wire ∙ ap (λ m. pin_wire m c.args.pin) c.shape.ensures) (subst (λ (m : Shape). c.pin-wire.result.0 < wires_of m) c.shape.ensures c.pin-wire.ensures.within)) (ap (has_number c.args.marks.now.barred) (sym (c.pin-wire.ensures.wire ∙ ap (λ m. pin_wire m c.args.pin) c.shape.ensures)) ∙ sym c.has.ensures ∙ c.if-has.false) c.try_pin.ensures.known c.try_pin.ensures.all c.try_pin.ensures.more c.try_pin.ensures.barred) in
    let len = c.len-from.ensures.len in
    omega (arith, long, len)

pub returns-clause-grows : goal.returns-clause-grows
returns-clause-grows g c = grows_then (pin_grows c.requires.marks (subst (λ w. w < wires_of c.args.facts.now.shape) (c.pin-wire.ensures.wire ∙ ap (λ m. pin_wire m c.args.pin) c.shape.ensures) (subst (λ (m : Shape). c.pin-wire.result.0 < wires_of m) c.shape.ensures c.pin-wire.ensures.within)) (ap (has_number c.args.marks.now.barred) (sym (c.pin-wire.ensures.wire ∙ ap (λ m. pin_wire m c.args.pin) c.shape.ensures)) ∙ sym c.has.ensures ∙ c.if-has.false) c.try_pin.ensures.known c.try_pin.ensures.all c.try_pin.ensures.more c.try_pin.ensures.barred) c.look_on.ensures.grows

pub returns-clause-tried_each : goal.returns-clause-tried_each
returns-clause-tried_each g c =
    let grows = pin_grows c.requires.marks (subst (λ w. w < wires_of c.args.facts.now.shape) (c.pin-wire.ensures.wire ∙ ap (λ m. pin_wire m c.args.pin) c.shape.ensures) (subst (λ (m : Shape). c.pin-wire.result.0 < wires_of m) c.shape.ensures c.pin-wire.ensures.within)) (ap (has_number c.args.marks.now.barred) (sym (c.pin-wire.ensures.wire ∙ ap (λ m. pin_wire m c.args.pin) c.shape.ensures)) ∙ sym c.has.ensures ∙ c.if-has.false) c.try_pin.ensures.known c.try_pin.ensures.all c.try_pin.ensures.more c.try_pin.ensures.barred in
    let step = c.look_on.ensures.grows in
    on_ok_so c.look_on.result c.look_on.ensures.tried_each (λ second f e marks. let before = c.look_on.ensures.advances.narrows f e in
    tried_then step.more step.steps c.look_on.ensures.advances.more (tried_one (ap (λ (m : Marks). m.barred) c.try_pin.ensures.barred) (c.in_ok-try_pin.ensures.tried_each f before))
    (second f e (pin_marks (pin_wire c.args.facts.now.shape c.args.pin) c.try_pin.ensures.advances.more grows marks (c.in_ok-try_pin.ensures.marks_each f before marks.are) c.try_pin.ensures.barred)))

pub returns-clause-grown_each : goal.returns-clause-grown_each
returns-clause-grown_each g c =
    let grows = pin_grows c.requires.marks (subst (λ w. w < wires_of c.args.facts.now.shape) (c.pin-wire.ensures.wire ∙ ap (λ m. pin_wire m c.args.pin) c.shape.ensures) (subst (λ (m : Shape). c.pin-wire.result.0 < wires_of m) c.shape.ensures c.pin-wire.ensures.within)) (ap (has_number c.args.marks.now.barred) (sym (c.pin-wire.ensures.wire ∙ ap (λ m. pin_wire m c.args.pin) c.shape.ensures)) ∙ sym c.has.ensures ∙ c.if-has.false) c.try_pin.ensures.known c.try_pin.ensures.all c.try_pin.ensures.more c.try_pin.ensures.barred in
    on_ok_so c.look_on.result c.look_on.ensures.grown_each (λ on f e marks grown. let before = c.look_on.ensures.advances.narrows f e in
    on f e (pin_marks (pin_wire c.args.facts.now.shape c.args.pin) c.try_pin.ensures.advances.more grows marks (c.in_ok-try_pin.ensures.marks_each f before marks.are) c.try_pin.ensures.barred) (grown_at (sym c.len-from.ensures.len) (grown_on c.try_pin.ensures.advances.more (omega arith) grows grown)))

pub returns-clause-pin : goal.returns-clause-pin
returns-clause-pin g c = on_ok_so c.look_on.result c.look_on.ensures.marks_each (λ each. inr (c.look_on.ensures.grows.stays.stays (pin_wire c.args.facts.now.shape c.args.pin) (pin_has c.requires.marks (subst (λ w. w < wires_of c.args.facts.now.shape) (c.pin-wire.ensures.wire ∙ ap (λ m. pin_wire m c.args.pin) c.shape.ensures) (subst (λ (m : Shape). c.pin-wire.result.0 < wires_of m) c.shape.ensures c.pin-wire.ensures.within)) c.try_pin.ensures.barred)))

pub returns-clause-marks_each : goal.returns-clause-marks_each
returns-clause-marks_each g c =
    let grows = pin_grows c.requires.marks (subst (λ w. w < wires_of c.args.facts.now.shape) (c.pin-wire.ensures.wire ∙ ap (λ m. pin_wire m c.args.pin) c.shape.ensures) (subst (λ (m : Shape). c.pin-wire.result.0 < wires_of m) c.shape.ensures c.pin-wire.ensures.within)) (ap (has_number c.args.marks.now.barred) (sym (c.pin-wire.ensures.wire ∙ ap (λ m. pin_wire m c.args.pin) c.shape.ensures)) ∙ sym c.has.ensures ∙ c.if-has.false) c.try_pin.ensures.known c.try_pin.ensures.all c.try_pin.ensures.more c.try_pin.ensures.barred in
    on_ok_so c.look_on.result c.look_on.ensures.marks_each (λ each f e marks. let before = c.look_on.ensures.advances.narrows f e in
    each f e (pin_marks (pin_wire c.args.facts.now.shape c.args.pin) c.try_pin.ensures.advances.more grows marks (c.in_ok-try_pin.ensures.marks_each f before marks.are) c.try_pin.ensures.barred))

pub returns-clause-spends_each : goal.returns-clause-spends_each
returns-clause-spends_each g c =
    let grows = pin_grows c.requires.marks (subst (λ w. w < wires_of c.args.facts.now.shape) (c.pin-wire.ensures.wire ∙ ap (λ m. pin_wire m c.args.pin) c.shape.ensures) (subst (λ (m : Shape). c.pin-wire.result.0 < wires_of m) c.shape.ensures c.pin-wire.ensures.within)) (ap (has_number c.args.marks.now.barred) (sym (c.pin-wire.ensures.wire ∙ ap (λ m. pin_wire m c.args.pin) c.shape.ensures)) ∙ sym c.has.ensures ∙ c.if-has.false) c.try_pin.ensures.known c.try_pin.ensures.all c.try_pin.ensures.more c.try_pin.ensures.barred in
    λ f e marks. let before = c.look_on.ensures.advances.narrows f e in
    few_then c.try_pin.ensures.advances.more (held c.try_pin.ensures.advances before) (few_barred _ _ c.requires.marks (subst (λ w. w < wires_of c.args.facts.now.shape) (c.pin-wire.ensures.wire ∙ ap (λ m. pin_wire m c.args.pin) c.shape.ensures) (subst (λ (m : Shape). c.pin-wire.result.0 < wires_of m) c.shape.ensures c.pin-wire.ensures.within)) (ap (has_number c.args.marks.now.barred) (sym (c.pin-wire.ensures.wire ∙ ap (λ m. pin_wire m c.args.pin) c.shape.ensures)) ∙ sym c.has.ensures ∙ c.if-has.false) c.try_pin.ensures.barred (takes_two c.try_pin.ensures.loads)) (c.look_on.ensures.spends_each f e (pin_marks (pin_wire c.args.facts.now.shape c.args.pin) c.try_pin.ensures.advances.more grows marks (c.in_ok-try_pin.ensures.marks_each f before marks.are) c.try_pin.ensures.barred))

pub returns-then-has-clause-spends : goal.returns-then-has-clause-spends
returns-then-has-clause-spends g c = spends_none refl refl

pub returns-then-has-2-clause-spends : goal.returns-then-has-2-clause-spends
returns-then-has-2-clause-spends g c = spends_none refl refl

pub returns-in_err-try_pin-clause-spends : goal.returns-in_err-try_pin-clause-spends
returns-in_err-try_pin-clause-spends g c = spends_barred _ _ c.requires.marks (subst (λ w. w < wires_of c.args.facts.now.shape) (c.pin-wire.ensures.wire ∙ ap (λ m. pin_wire m c.args.pin) c.shape.ensures) (subst (λ (m : Shape). c.pin-wire.result.0 < wires_of m) c.shape.ensures c.pin-wire.ensures.within)) (ap (has_number c.args.marks.now.barred) (sym (c.pin-wire.ensures.wire ∙ ap (λ m. pin_wire m c.args.pin) c.shape.ensures)) ∙ sym c.has.ensures ∙ c.if-has.false) c.try_pin.ensures.barred (takes_two c.try_pin.ensures.loads)

pub returns-clause-spends : goal.returns-clause-spends
returns-clause-spends g c = spends_then c.try_pin.ensures.advances.more (spends_barred _ _ c.requires.marks (subst (λ w. w < wires_of c.args.facts.now.shape) (c.pin-wire.ensures.wire ∙ ap (λ m. pin_wire m c.args.pin) c.shape.ensures) (subst (λ (m : Shape). c.pin-wire.result.0 < wires_of m) c.shape.ensures c.pin-wire.ensures.within)) (ap (has_number c.args.marks.now.barred) (sym (c.pin-wire.ensures.wire ∙ ap (λ m. pin_wire m c.args.pin) c.shape.ensures)) ∙ sym c.has.ensures ∙ c.if-has.false) c.try_pin.ensures.barred (takes_two c.try_pin.ensures.loads)) c.look_on.ensures.spends
