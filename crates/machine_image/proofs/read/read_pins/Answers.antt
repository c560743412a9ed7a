use Rattle.std.proofs.Common.{◌≡◌, ◌+◌, ◌-◌, ◌∷◌, [], ◌++◌, true, length, set, refl, subst, sym, arith}
use Rattle.machine_image.proofs.Vocabulary.{pins_of, pin_fault, IsField, IsRefusedField, AreMarks, ArePins}
use Rattle.machine_image.proofs.{Wrong.pin_right, Steps.pin_refused, Steps.pin_step, Steps.marks_step}
use Rattle.machine_image.proofs.read.read_pins.Goals as goal

pub returns-in-Err-clause-refused : goal.returns-in-Err-clause-refused
returns-in-Err-clause-refused c =
    let marks = c.pins.marks.items in
    pin_refused c.args.shape.now c.args.bytes.now c.args.at.now c.args.count c.pins.at (c.args.count - c.pins.counter) (c.args.count - (c.pins.counter + 1)) c.pins.pins.items c.pins.invariant.0 (omega (arith, c.pins-test.true))
    marks c.in-Err.fault c.pins.invariant.1.len
    (subst (λ z. IsRefusedField 2 (pin_fault (length z) c.pins.pins.items) c.args.bytes.now c.pins.at c.in-Err.fault) c.deref-in-pins.ensures.value
    (subst (λ z. IsRefusedField 2 (pin_fault (length c.deref-in-pins.result.now) z) c.args.bytes.now c.pins.at c.in-Err.fault) c.deref.ensures.value c.in-Err.ensures.refused))

pub pins-preserved : goal.pins-preserved
pins-preserved c =
    let marks = c.pins.marks.items in
    let k = c.in-Ok-pin.k in
    let field : IsField 2 (pin_fault (length marks) c.pins.pins.items) c.args.bytes.now c.pins.at k =
    subst (λ z. IsField 2 (pin_fault (length z) c.pins.pins.items) c.args.bytes.now c.pins.at k) c.deref-in-pins.ensures.value
    (subst (λ z. IsField 2 (pin_fault (length c.deref-in-pins.result.now) z) c.args.bytes.now c.pins.at k) c.deref.ensures.value c.in-Ok-pin.ensures.found) in
    let new : c.push.new.self.items ≡ c.pins.pins.items ++ k ∷ [] = c.in_default-push.ensures.items in
    let below = (pin_right (length marks) c.pins.pins.items k field.right).0 in (
      subst (λ z. ArePins c.args.shape.now c.args.bytes.now c.args.at.now (c.pins.at + 2) c.args.count (c.args.count - (c.pins.counter + 1)) z) (sym new)
          (pin_step c.args.shape.now c.args.bytes.now c.args.at.now c.args.count c.pins.at (c.args.count - c.pins.counter) (c.args.count - (c.pins.counter + 1)) c.pins.pins.items c.pins.invariant.0 (omega (arith, c.pins-test.true))
          (c.pins.at + 2) k marks c.pins.invariant.1.len refl field),
      subst (λ z. AreMarks (pins_of c.args.shape.now) z (set marks k true)) (sym new) (marks_step (pins_of c.args.shape.now) c.pins.pins.items marks k c.pins.invariant.1 (omega (arith, below, c.pins.invariant.1.len))),
    )

pub returns-clause-found : goal.returns-clause-found
returns-clause-found c =
    subst (λ z. ArePins c.args.shape.now c.args.bytes.now c.args.at.now c.pins.at c.args.count z c.pins.pins.items) (omega (arith, c.pins-test.false)) c.pins.invariant.0
