use Rattle.diag_growth.proofs.Vocabulary.{◌<◌, ◌∙◌, ℕ, sym, subst, Shape, table_wire, HasWire}
use Rattle.diag_growth.proofs.Testing.{no_seat, without_at, hextant_is}
use Rattle.diag_growth.proofs.tables.seat_for.Goals as goal

pub returns-then-not-has_pins-clause-none : goal.returns-then-not-has_pins-clause-none
returns-then-not-has_pins-clause-none c = λ s. c.has_pins.ensures.misses c.if-not-has_pins.true
    (subst (λ (m : Shape). (j : ℕ) → j < 7 → HasWire c.args.known.now.steps (table_wire m c.args.t.0 j)) (sym c.requires.known.shape) s.pins)

pub find_place-requires-clause-without : goal.find_place-requires-clause-without
find_place-requires-clause-without c = c.in_ok-renew.ensures.stands.known

pub returns-in_default-clause-none : goal.returns-in_default-clause-none
returns-in_default-clause-none c =
    let here = without_at (c.in_ok-renew.ensures.hextant ∙ hextant_is c.args.t.0 c.requires.known.shape c.shape.ensures c.hextant_of.ensures.node) c.in_ok-renew.ensures.stands in
    no_seat here.whole (rw c.in_default.is at c.in_ok-place.ensures.none)

pub seat_of-requires-clause-without : goal.seat_of-requires-clause-without
seat_of-requires-clause-without c = c.in_ok-renew.ensures.stands.known

pub seat_of-requires-clause-outside : goal.seat_of-requires-clause-outside
seat_of-requires-clause-outside c =
    let here = without_at (c.in_ok-renew.ensures.hextant ∙ hextant_is c.args.t.0 c.requires.known.shape c.shape.ensures c.hextant_of.ensures.node) c.in_ok-renew.ensures.stands in here.within

pub seat_of-requires-clause-pins : goal.seat_of-requires-clause-pins
seat_of-requires-clause-pins c =
    subst (λ (m : Shape). (j : ℕ) → j < 7 → HasWire c.args.known.now.steps (table_wire m c.args.t.0 j)) c.requires.known.shape (c.has_pins.ensures.all c.if-not-has_pins.false)

pub seat_of-requires-clause-place : goal.seat_of-requires-clause-place
seat_of-requires-clause-place c = rw c.in-Some.is at c.in_ok-place.ensures.place
