use Rattle.diag_growth.proofs.Vocabulary.{◌≡◌, ◌<◌, ◌∙◌, true, refl, sym, ap, subst, inl, inr, slice_set, Shape, pin_wire, wires_of}
use Rattle.diag_growth.proofs.Vocabulary.{KnownWires, HasWire, IsKnown, KnowsAll, on_pin, IsBad, IsOneMore, all_still, known_later}
use Rattle.diag_growth.proofs.Vocabulary.{stands_later, more_then, marks_barred, marks_still, over_barred, over_later}
use Rattle.diag_growth.proofs.Learning.{none_more, learnt_more, learnt_has, settled_known, settled_all, learnt_marks}
use Rattle.diag_growth.proofs.learn.try_pin.Goals as goal

pub bar-requires : goal.bar-requires
bar-requires g c = subst (λ n. c.pin-wire.result.0 < n) (sym c.requires.marks.barred) (subst (λ (m : Shape). c.pin-wire.result.0 < wires_of m) c.shape.ensures c.pin-wire.ensures.within)

pub is_good_pin-requires-clause-wire : goal.is_good_pin-requires-clause-wire
is_good_pin-requires-clause-wire g c = c.pin-wire.ensures.wire ∙ ap (λ m. pin_wire m c.args.pin) c.shape.ensures

pub is_good_pin-requires-clause-new : goal.is_good_pin-requires-clause-new
is_good_pin-requires-clause-new g c = subst (λ w. ¬ HasWire c.args.known.now.steps w) (sym (c.pin-wire.ensures.wire ∙ ap (λ m. pin_wire m c.args.pin) c.shape.ensures)) c.requires.new

pub returns-in_err-good-clause-known : goal.returns-in_err-good-clause-known
returns-in_err-good-clause-known g c = known_later c.is_good_pin.ensures.advances.more c.requires.known

pub returns-in_err-good-clause-more : goal.returns-in_err-good-clause-more
returns-in_err-good-clause-more g c = none_more (pin_wire c.args.facts.now.shape c.args.pin) refl

pub returns-in_err-good-clause-barred : goal.returns-in_err-good-clause-barred
returns-in_err-good-clause-barred g c = subst (λ w. c.bar.new.self ≡ record c.args.marks.now { barred = slice_set c.args.marks.now.barred w true }) (c.pin-wire.ensures.wire ∙ ap (λ m. pin_wire m c.args.pin) c.shape.ensures) c.bar.ensures

pub returns-then-not-good-clause-known : goal.returns-then-not-good-clause-known
returns-then-not-good-clause-known g c = known_later c.is_good_pin.ensures.advances.more c.requires.known

pub returns-then-not-good-clause-more : goal.returns-then-not-good-clause-more
returns-then-not-good-clause-more g c = none_more (pin_wire c.args.facts.now.shape c.args.pin) refl

pub returns-then-not-good-clause-barred : goal.returns-then-not-good-clause-barred
returns-then-not-good-clause-barred g c = subst (λ w. c.bar.new.self ≡ record c.args.marks.now { barred = slice_set c.args.marks.now.barred w true }) (c.pin-wire.ensures.wire ∙ ap (λ m. pin_wire m c.args.pin) c.shape.ensures) c.bar.ensures

pub returns-clause-barred : goal.returns-clause-barred
returns-clause-barred g c = subst (λ w. c.bar.new.self ≡ record c.args.marks.now { barred = slice_set c.args.marks.now.barred w true }) (c.pin-wire.ensures.wire ∙ ap (λ m. pin_wire m c.args.pin) c.shape.ensures) c.bar.ensures

pub returns-then-not-good-clause-tried_each : goal.returns-then-not-good-clause-tried_each
returns-then-not-good-clause-tried_each g c = λ f e. inr (subst (IsBad _ c.is_good_pin.new.facts c.args.known.now.steps) (c.pin-wire.ensures.wire ∙ ap (λ m. pin_wire m c.args.pin) c.shape.ensures) (c.in_ok-good.ensures.bad_each f e c.if-not-good.true))

pub returns-then-not-good-clause-marks_each : goal.returns-then-not-good-clause-marks_each
returns-then-not-good-clause-marks_each g c = λ f e marks. marks_still c.is_good_pin.ensures.advances.more (marks_barred c.pin-wire.result.0 marks c.bar.ensures)

pub learn-requires-clause-wire : goal.learn-requires-clause-wire
learn-requires-clause-wire g c = subst (λ (m : Shape). c.pin-wire.result.0 < wires_of m) (c.shape.ensures ∙ sym c.requires.known.shape) c.pin-wire.ensures.within

pub learn-requires-clause-new : goal.learn-requires-clause-new
learn-requires-clause-new g c = subst (λ w. ¬ HasWire c.args.known.now.steps w) (sym (c.pin-wire.ensures.wire ∙ ap (λ m. pin_wire m c.args.pin) c.shape.ensures)) c.requires.new

pub returns-in_err-learn-clause-known : goal.returns-in_err-learn-clause-known
returns-in_err-learn-clause-known g c = subst (λ (known : KnownWires). IsKnown c.is_good_pin.new.facts known) (sym c.in_err-learn.ensures.same) (known_later c.is_good_pin.ensures.advances.more c.requires.known)

pub returns-in_err-learn-clause-all : goal.returns-in_err-learn-clause-all
returns-in_err-learn-clause-all g c = subst (λ (known : KnownWires). KnowsAll c.is_good_pin.new.facts known.steps) (sym c.in_err-learn.ensures.same) (all_still c.args.facts.now c.is_good_pin.new.facts c.is_good_pin.ensures.set c.requires.all)

pub returns-clause-known : goal.returns-clause-known
returns-clause-known g c = settled_known c.settle.result c.settle.ensures.settled c.settle.ensures.refused c.settle.ensures.more (c.in_ok-good.ensures.good c.if-not-good.false) (known_later c.is_good_pin.ensures.advances.more c.requires.known) (subst (λ w. ¬ HasWire c.args.known.now.steps w) (sym (c.pin-wire.ensures.wire ∙ ap (λ m. pin_wire m c.args.pin) c.shape.ensures)) c.requires.new) (stands_later c.is_good_pin.ensures.advances.more (on_pin c.requires.pin (c.pin-wire.ensures.wire ∙ ap (λ m. pin_wire m c.args.pin) c.shape.ensures))) c.in_ok-learn.ensures.learnt

pub returns-clause-all : goal.returns-clause-all
returns-clause-all g c = settled_all c.settle.result c.settle.ensures.settled c.settle.ensures.refused (c.in_ok-good.ensures.good c.if-not-good.false) (all_still c.args.facts.now c.is_good_pin.new.facts c.is_good_pin.ensures.set c.requires.all) c.in_ok-learn.ensures.learnt

pub returns-in_err-learn-clause-more : goal.returns-in_err-learn-clause-more
returns-in_err-learn-clause-more g c = none_more (pin_wire c.args.facts.now.shape c.args.pin) c.in_err-learn.ensures.same

pub returns-clause-more : goal.returns-clause-more
returns-clause-more g c = subst (IsOneMore c.args.known.now c.learn.new.known) (c.pin-wire.ensures.wire ∙ ap (λ m. pin_wire m c.args.pin) c.shape.ensures) (learnt_more c.in_ok-learn.ensures.learnt)

pub returns-clause-tried_each : goal.returns-clause-tried_each
returns-clause-tried_each g c = λ f e. inl (subst (HasWire c.learn.new.known.steps) (c.pin-wire.ensures.wire ∙ ap (λ m. pin_wire m c.args.pin) c.shape.ensures) (learnt_has c.in_ok-learn.ensures.learnt))

pub returns-clause-marks_each : goal.returns-clause-marks_each
returns-clause-marks_each g c = λ f e marks. learnt_marks (more_then c.is_good_pin.ensures.advances.more c.settle.ensures.more) c.in_ok-learn.ensures.learnt (marks_barred c.pin-wire.result.0 marks c.bar.ensures)

pub returns-in_err-learn-clause-marks : goal.returns-in_err-learn-clause-marks
returns-in_err-learn-clause-marks g c = over_later c.is_good_pin.ensures.advances.more (over_barred c.pin-wire.result.0 c.requires.marks c.bar.ensures)

pub returns-in_err-learn-clause-barred : goal.returns-in_err-learn-clause-barred
returns-in_err-learn-clause-barred g c = subst (λ w. c.bar.new.self ≡ record c.args.marks.now { barred = slice_set c.args.marks.now.barred w true }) (c.pin-wire.ensures.wire ∙ ap (λ m. pin_wire m c.args.pin) c.shape.ensures) c.bar.ensures

pub returns-in_err-good-clause-marks : goal.returns-in_err-good-clause-marks
returns-in_err-good-clause-marks g c = over_later c.is_good_pin.ensures.advances.more (over_barred c.pin-wire.result.0 c.requires.marks c.bar.ensures)

pub returns-then-not-good-clause-marks : goal.returns-then-not-good-clause-marks
returns-then-not-good-clause-marks g c = over_later c.is_good_pin.ensures.advances.more (over_barred c.pin-wire.result.0 c.requires.marks c.bar.ensures)

pub returns-clause-marks : goal.returns-clause-marks
returns-clause-marks g c = over_later (more_then c.is_good_pin.ensures.advances.more c.settle.ensures.more) (over_barred c.pin-wire.result.0 c.requires.marks c.bar.ensures)

pub returns-in_err-good-clause-all : goal.returns-in_err-good-clause-all
returns-in_err-good-clause-all g c = all_still c.args.facts.now c.is_good_pin.new.facts c.is_good_pin.ensures.set c.requires.all

pub returns-then-not-good-clause-all : goal.returns-then-not-good-clause-all
returns-then-not-good-clause-all g c = all_still c.args.facts.now c.is_good_pin.new.facts c.is_good_pin.ensures.set c.requires.all
