use Rattle.diag_known.proofs.Vocabulary.{◌≡◌, ◌<◌, ℕ, sym, subst, Shape, pins_of, pin_wire, AreWays}
use Rattle.std.proofs.lemmas.Result.{IfOk-weaker}
use Rattle.diag_known.proofs.{Places.at_one, Places.pin_here, TwoWays.known_feet}
use Rattle.diag_known.proofs.known.Known.ways_to.Goals as goal

pub ways_at-requires : goal.ways_at-requires
ways_at-requires c =
    let pin = pin_here c.requires.known c.place.result c.step_at.result c.in-Pin.pin c.step_at.ensures c.in-Pin.is in
    subst (λ (m : Shape). c.in-Pin.pin < pins_of m) (sym c.requires.known.shape) pin.within

pub ways_over-requires-clause-feet : goal.ways_over-requires-clause-feet
ways_over-requires-clause-feet c = known_feet c.requires.known c.place.ensures c.step_at.result c.in-Feet.first c.in-Feet.second c.step_at.ensures c.in-Feet.is

pub returns-in-Pin : goal.returns-in-Pin
returns-in-Pin c =
    let pin = pin_here c.requires.known c.place.result c.step_at.result c.in-Pin.pin c.step_at.ensures c.in-Pin.is in
    let same : pin_wire c.args.facts.now.shape c.in-Pin.pin ≡ c.args.w.0 = at_one (record { step = pin.step; here = pin.here; wire = pin.wire }) c.place.ensures in
    IfOk-weaker c.ways_at.result _ _ (λ ways h. subst (λ (u : ℕ). AreWays c.args.facts.now c.args.self.now.steps u ways.0 ways.1) same (h c.args.facts.now (sym c.requires.known.shape))) c.ways_at.ensures
