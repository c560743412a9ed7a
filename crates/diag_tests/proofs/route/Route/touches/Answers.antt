use Rattle.std.proofs.Common.{◌≡◌, ◌<◌, ◌+◌, ◌∙◌, Bool, true, false, length, take, sym, ap, subst, refl, arith, ◌==◌, ◌||◌}
use Rattle.diag_tests.proofs.Vocabulary.{nat_tests, take_all, among}
use Rattle.diag_tests.proofs.Closings.{among_at, more_among}
use Rattle.diag_tests.proofs.route.Route.touches.Goals as goal

both_false : (a b : Bool) → a ≡ false → b ≡ false → (a || b) ≡ false
both_false a b p q = rw (p, q) refl

pub wires-preserved : goal.wires-preserved
wires-preserved c =
    let below : c.wires.k < length c.args.self.now.wires = omega arith in
    let other : (c.wire_at.result.0 == c.args.w.0) ≡ false = grind (arith, nat_tests, c.if-eq.ensures) in
    more_among c.args.self.now.wires c.wires.k _ c.args.w.0 below c.wire_at.ensures ∙ both_false _ _ c.wires.invariant other

pub returns-then-eq : goal.returns-then-eq
returns-then-eq c =
    let below : c.wires.k < length c.args.self.now.wires = omega arith in
    let same : c.wire_at.result.0 ≡ c.args.w.0 = grind (arith, nat_tests, c.if-eq.ensures) in
    sym (subst (λ w. among c.args.self.now.wires w ≡ true) same (among_at c.args.self.now.wires c.wires.k _ below c.wire_at.ensures))

pub returns-else-eq : goal.returns-else-eq
returns-else-eq c =
    let below : c.wires.k < length c.args.self.now.wires = omega arith in
    let other : (c.wire_at.result.0 == c.args.w.0) ≡ false = grind (arith, nat_tests, c.if-eq.ensures) in
    let whole : take (c.wires.k + 1) c.args.self.now.wires ≡ c.args.self.now.wires = take_all (c.wires.k + 1) c.args.self.now.wires (omega arith) in
    sym (ap (λ ws. among ws c.args.w.0) (sym whole) ∙ more_among c.args.self.now.wires c.wires.k _ c.args.w.0 below c.wire_at.ensures ∙ both_false _ _ c.wires.invariant other)
