use Rattle.diag_evidence.proofs.Vocabulary.{get_or_default, nat_tests, Foot, pin_at, parts}
use Rattle.std.proofs.Common.{◌≡◌, ◌||◌, ◌<◌, true, false, get_or, refl, sym, ap, ◌∙◌, arith, ◌==◌}
use Rattle.diag_evidence.proofs.Rows.{not_all}
use Rattle.diag_evidence.proofs.feet.others_part.Goals as goal

pub returns-then-not-parts : goal.returns-then-not-parts
returns-then-not-parts c =
    let other : Foot = get_or c.args.feet.now c.feet.k (record { 0 = 0 }, record { 0 = 0 }) in
    let differs : (other.0.0 == c.args.foot.0.0) ≡ false = (let n = c.if-other-foot.false in grind (arith, nat_tests, n)) in
    let apart : parts c.args.reads.now.rows (pin_at c.args.forest.now other) (pin_at c.args.forest.now c.args.foot) ≡ false =
    ap (λ p. parts c.args.reads.now.rows p (pin_at c.args.forest.now c.args.foot)) (sym c.listed_pin.ensures.pin) ∙ ap (parts c.args.reads.now.rows c.listed_pin.result) (sym c.pin_at-pin.ensures.pin) ∙ sym c.parts.ensures ∙ c.if-not-parts.true in
    sym (not_all c.args.feet.now c.feet.k other c.feet-test.true (get_or_default c.args.feet.now c.feet.k _ _ c.feet-test.true)
    (λ o. (o.0.0 == c.args.foot.0.0) || parts c.args.reads.now.rows (pin_at c.args.forest.now o) (pin_at c.args.forest.now c.args.foot))
    (ap (λ t. t || parts c.args.reads.now.rows (pin_at c.args.forest.now other) (pin_at c.args.forest.now c.args.foot)) differs ∙ apart))
