use Rattle.diag_sweep.proofs.Vocabulary.{◌∙◌, ap, refl, Shape, pin_wire}
use Rattle.diag_known.specs.declared.verified_wire.SupportedBy.TheVariants as stand
use Rattle.diag_sweep.proofs.Learnt.{learnt_known, learnt_grows, stands_on_pin}
use Rattle.diag_sweep.proofs.learn.learn_pin.Goals as goal

pub returns-clause-known : goal.returns-clause-known
returns-clause-known c = learnt_known c.learn.result c.learn.ensures.learnt c.learn.ensures.same c.learn.ensures.shape c.requires.known (c.if-not-is_wanted.ensures.good refl) (stands_on_pin c.requires.pin (c.pin-wire.ensures.wire ∙ ap (λ (m : Shape). pin_wire m c.args.pin) c.shape.ensures))

pub returns-clause-grows : goal.returns-clause-grows
returns-clause-grows c = learnt_grows c.args.known.now c.learn.new.self (record { wire = c.pin-wire.result; stand = stand.Pin c.args.pin }) c.learn.result c.learn.ensures.learnt c.learn.ensures.same (c.if-not-is_wanted.ensures.field refl)
