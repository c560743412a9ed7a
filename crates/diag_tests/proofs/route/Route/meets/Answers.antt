use Rattle.std.proofs.Common.{◌≡◌, ◌<◌, ◌+◌, ◌∙◌, Bool, true, false, length, take, sym, ap, subst, refl, arith, ◌||◌}
use Rattle.diag_tests.proofs.Vocabulary.{nat_tests, take_all, among}
use Rattle.diag_tests.proofs.Closings.{among_at, more_among}
use Rattle.diag_tests.proofs.route.Route.meets.Goals as goal

either_way : (a b : Bool) (P : Type 0) → (a || b) ≡ true → (a ≡ true → P) → (b ≡ true → P) → P
either_way true b P e one other = one refl
either_way false b P e one other = other e

pub wires-preserved : goal.wires-preserved
wires-preserved c =
    let below : c.wires.k < length c.args.self.now.wires = omega arith in
    λ w is. either_way _ _ _ (sym (more_among c.args.self.now.wires c.wires.k _ w below c.wire_at.ensures) ∙ is) (c.wires.invariant w)
    (λ e. let same : c.wire_at.result.0 ≡ w = grind (arith, nat_tests) in subst (λ u. among c.args.other.now.wires u ≡ false) same (sym c.if-touches.ensures))

pub returns-then-touches-clause-meets : goal.returns-then-touches-clause-meets
returns-then-touches-clause-meets c =
    let below : c.wires.k < length c.args.self.now.wires = omega arith in
    λ on. (c.wire_at.result.0, among_at c.args.self.now.wires c.wires.k _ below c.wire_at.ensures, sym c.if-touches.ensures)

pub returns-else-touches-clause-apart : goal.returns-else-touches-clause-apart
returns-else-touches-clause-apart c =
    let below : c.wires.k < length c.args.self.now.wires = omega arith in
    let whole : take (c.wires.k + 1) c.args.self.now.wires ≡ c.args.self.now.wires = take_all (c.wires.k + 1) c.args.self.now.wires (omega arith) in
    λ off w is. either_way _ _ _ (sym (more_among c.args.self.now.wires c.wires.k _ w below c.wire_at.ensures) ∙ ap (λ ws. among ws w) whole ∙ is) (c.wires.invariant w)
    (λ e. let same : c.wire_at.result.0 ≡ w = grind (arith, nat_tests) in subst (λ u. among c.args.other.now.wires u ≡ false) same (sym c.if-touches.ensures))
