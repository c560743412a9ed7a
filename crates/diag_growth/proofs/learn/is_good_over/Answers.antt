use Rattle.std.proofs.Common.{◌≡◌, ◌≢◌, ◌<◌, ℕ, sym, subst, arith}
use Rattle.diag_growth.proofs.Vocabulary.{Shape, pins_of, pin_wire, wires_of, takes_two, takes_three, offer_feet}
use Rattle.diag_growth.proofs.learn.is_good_over.Goals as goal

pub machine_pin-requires : goal.machine_pin-requires
machine_pin-requires g c = subst (λ (m : Shape). c.args.offer.now.wire.0 < wires_of m) (sym c.shape.ensures) c.requires.offer.within

pub is_good_pin-requires-clause-pin : goal.is_good_pin-requires-clause-pin
is_good_pin-requires-clause-pin g c = subst (λ (m : Shape). c.in-Some.pin < pins_of m) c.shape.ensures ((rw c.in-Some.is at c.machine_pin.ensures.pin).0)

pub is_good_pin-requires-clause-wire : goal.is_good_pin-requires-clause-wire
is_good_pin-requires-clause-wire g c = subst (λ (m : Shape). c.args.offer.now.wire.0 ≡ pin_wire m c.in-Some.pin) c.shape.ensures ((rw c.in-Some.is at c.machine_pin.ensures.pin).1)

pub returns-in-Some-clause-loads : goal.returns-in-Some-clause-loads
returns-in-Some-clause-loads g c = takes_two c.is_good_pin.ensures.loads

pub ways_over-requires-clause-feet : goal.ways_over-requires-clause-feet
ways_over-requires-clause-feet g c = offer_feet c.requires.offer c.requires.over

pub returns-in_default-ways_over-clause-loads : goal.returns-in_default-ways_over-clause-loads
returns-in_default-ways_over-clause-loads g c = takes_two (omega arith)

pub returns-clause-loads : goal.returns-clause-loads
returns-clause-loads g c = takes_three (subst (λ (m : Shape). (i : ℕ) → i < pins_of m → c.args.offer.now.wire.0 ≢ pin_wire m i) c.shape.ensures (rw c.in_default.is at c.machine_pin.ensures.none)) c.is_good.ensures.loads
