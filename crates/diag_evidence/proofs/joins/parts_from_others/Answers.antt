use Rattle.std.proofs.Common.{◌≡◌, ◌||◌, true, false, ℕ, Option, sym, ap, ◌∙◌, arith, ◌==◌}
use Rattle.diag_evidence.proofs.Vocabulary.{option_map_or, nat_tests, wires_of, pin_of, parts}
use Rattle.diag_evidence.proofs.{Rows.every_yet, Rows.not_every, Rows.or_first, Rows.or_second, Rows.or_neither, Footing.pin_below}
use Rattle.diag_evidence.proofs.joins.parts_from_others.Goals as goal

pub parts-requires-clause-a : goal.parts-requires-clause-a
parts-requires-clause-a c =
    let b = pin_below c.args.forest.now c.wires.u c.in-Some.other c.shape.ensures.forest (sym c.pin_of.ensures ∙ c.in-Some.is) in
    let e = c.requires.reads in omega (arith, b, e)

pub wires-preserved-then-u-wire : goal.wires-preserved-then-u-wire
wires-preserved-then-u-wire c =
    let at = λ (o : Option ℕ). option_map_or (λ p. parts c.args.reads.now.rows p c.args.pin) o true in
    let is : (c.wires.u == c.args.wire.0) ≡ true = (let e = c.if-u-wire.true in grind (arith, nat_tests, e)) in
    every_yet (λ u. (u == c.args.wire.0) || at (pin_of c.args.forest.now u)) c.wires.u c.wires.invariant (or_first (c.wires.u == c.args.wire.0) (at (pin_of c.args.forest.now c.wires.u)) is)

pub wires-preserved-in_default : goal.wires-preserved-in_default
wires-preserved-in_default c =
    let at = λ (o : Option ℕ). option_map_or (λ p. parts c.args.reads.now.rows p c.args.pin) o true in
    every_yet (λ u. (u == c.args.wire.0) || at (pin_of c.args.forest.now u)) c.wires.u c.wires.invariant (or_second (c.wires.u == c.args.wire.0) (at (pin_of c.args.forest.now c.wires.u))
    (ap at (sym c.pin_of.ensures ∙ c.in_default.is)))

pub returns-then-not-parts : goal.returns-then-not-parts
returns-then-not-parts c =
    let at = λ (o : Option ℕ). option_map_or (λ p. parts c.args.reads.now.rows p c.args.pin) o true in
    let differs : (c.wires.u == c.args.wire.0) ≡ false = (let n = c.if-u-wire.false in grind (arith, nat_tests, n)) in
    let below = c.wires-test.true in let m = ap wires_of c.shape.ensures.shape in let n = c.wires-u-end.ensures.wires in
    sym (not_every (λ u. (u == c.args.wire.0) || at (pin_of c.args.forest.now u)) _ c.wires.u (omega (arith, below, m, n)) (or_neither (c.wires.u == c.args.wire.0) (at (pin_of c.args.forest.now c.wires.u)) differs
    (ap at (sym c.pin_of.ensures ∙ c.in-Some.is) ∙ sym c.parts.ensures ∙ c.if-not-parts.true)))

pub wires-preserved : goal.wires-preserved
wires-preserved c =
    let at = λ (o : Option ℕ). option_map_or (λ p. parts c.args.reads.now.rows p c.args.pin) o true in
    every_yet (λ u. (u == c.args.wire.0) || at (pin_of c.args.forest.now u)) c.wires.u c.wires.invariant (or_second (c.wires.u == c.args.wire.0) (at (pin_of c.args.forest.now c.wires.u))
    (ap at (sym c.pin_of.ensures ∙ c.in-Some.is) ∙ sym c.parts.ensures ∙ c.if-not-parts.false))
