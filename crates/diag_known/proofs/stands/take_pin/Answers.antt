use Rattle.diag_known.proofs.Vocabulary.{◌≡◌, ◌∙◌, sym, subst, Shape, pin_wire}
use Rattle.diag_known.proofs.Stood.{stood_ground, stood_founds, pin_stands_so}
use Rattle.diag_known.proofs.stands.take_pin.Goals as goal

pub returns-clause-ground : goal.returns-clause-ground
returns-clause-ground c =
    let is : c.pin-wire.result.0 ≡ pin_wire c.args.facts.now.shape c.args.pin = subst (λ (m : Shape). c.pin-wire.result.0 ≡ pin_wire m c.args.pin) c.shape.ensures c.pin-wire.ensures.wire in
    stood_ground c.requires.ground _ (sym c.has.ensures ∙ c.if-not-has.false) (pin_stands_so c.args.known.now c.requires.pin is) c.learn.ensures.shape c.in_ok-learn.ensures.learnt c.remove.ensures

pub returns-clause-founds : goal.returns-clause-founds
returns-clause-founds c =
    let is : c.pin-wire.result.0 ≡ pin_wire c.args.facts.now.shape c.args.pin = subst (λ (m : Shape). c.pin-wire.result.0 ≡ pin_wire m c.args.pin) c.shape.ensures c.pin-wire.ensures.wire in
    stood_founds c.requires.ground _ (sym c.has.ensures ∙ c.if-not-has.false) (pin_stands_so c.args.known.now c.requires.pin is) c.learn.ensures.shape c.in_ok-learn.ensures.learnt c.remove.ensures
