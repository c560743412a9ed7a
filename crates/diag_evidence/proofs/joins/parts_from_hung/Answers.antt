use Rattle.std.proofs.Common.{◌≡◌, ◌||◌, ℕ, not, true, false, sym, ap, ◌∙◌, arith, ◌==◌, is_some}
use Rattle.diag_evidence.proofs.Vocabulary.{nat_tests, pin_wire, pins_of, pin_of, is_hung, parts}
use Rattle.diag_evidence.proofs.Rows.{every_yet, not_every, or_first, or_second, or_neither}
use Rattle.diag_evidence.proofs.joins.parts_from_hung.Goals as goal

pub pins-preserved-then-k-pin : goal.pins-preserved-then-k-pin
pins-preserved-then-k-pin c =
    let is : (c.pins.k == c.args.pin) ≡ true = (let e = c.if-k-pin.true in grind (arith, nat_tests, e)) in
    every_yet (λ k. (k == c.args.pin) || (not (is_hung c.args.forest.now (pin_wire c.args.forest.now.shape k)) || parts c.args.reads.now.rows k c.args.pin)) c.pins.k c.pins.invariant
    (or_first (c.pins.k == c.args.pin) (not (is_hung c.args.forest.now (pin_wire c.args.forest.now.shape c.pins.k)) || parts c.args.reads.now.rows c.pins.k c.args.pin) is)

pub pins-preserved-then-is_none : goal.pins-preserved-then-is_none
pins-preserved-then-is_none c =
    let hung : is_hung c.args.forest.now (pin_wire c.args.forest.now.shape c.pins.k) ≡ false =
    ap (λ w. is_some (pin_of c.args.forest.now w)) (ap (λ m. pin_wire m c.pins.k) (sym c.shape-shape.ensures.shape) ∙ sym c.pin.ensures.wire) ∙ ap is_some (sym c.pin_of.ensures) ∙ c.is_none.ensures ∙ ap not c.if-is_none.true in
    every_yet (λ k. (k == c.args.pin) || (not (is_hung c.args.forest.now (pin_wire c.args.forest.now.shape k)) || parts c.args.reads.now.rows k c.args.pin)) c.pins.k c.pins.invariant
    (or_second (c.pins.k == c.args.pin) _ (or_first (not (is_hung c.args.forest.now (pin_wire c.args.forest.now.shape c.pins.k))) (parts c.args.reads.now.rows c.pins.k c.args.pin) (ap not hung)))

pub returns-then-not-parts : goal.returns-then-not-parts
returns-then-not-parts c =
    let differs : (c.pins.k == c.args.pin) ≡ false = (let n = c.if-k-pin.false in grind (arith, nat_tests, n)) in
    let hung : is_hung c.args.forest.now (pin_wire c.args.forest.now.shape c.pins.k) ≡ true =
    ap (λ w. is_some (pin_of c.args.forest.now w)) (ap (λ m. pin_wire m c.pins.k) (sym c.shape-shape.ensures.shape) ∙ sym c.pin.ensures.wire) ∙ ap is_some (sym c.pin_of.ensures) ∙ c.is_none.ensures ∙ ap not c.if-is_none.false in
    let below = c.pins-test.true in let m = ap pins_of c.shape-shape.ensures.shape in let n = c.pins-k-end.ensures.pins in
    sym (not_every (λ k. (k == c.args.pin) || (not (is_hung c.args.forest.now (pin_wire c.args.forest.now.shape k)) || parts c.args.reads.now.rows k c.args.pin)) _ c.pins.k (omega (arith, below, m, n))
    (or_neither (c.pins.k == c.args.pin) _ differs (or_neither (not (is_hung c.args.forest.now (pin_wire c.args.forest.now.shape c.pins.k))) (parts c.args.reads.now.rows c.pins.k c.args.pin) (ap not hung) (sym c.parts.ensures ∙ c.if-not-parts.true))))

pub pins-preserved : goal.pins-preserved
pins-preserved c =
    every_yet (λ k. (k == c.args.pin) || (not (is_hung c.args.forest.now (pin_wire c.args.forest.now.shape k)) || parts c.args.reads.now.rows k c.args.pin)) c.pins.k c.pins.invariant
    (or_second (c.pins.k == c.args.pin) _ (or_second (not (is_hung c.args.forest.now (pin_wire c.args.forest.now.shape c.pins.k))) (parts c.args.reads.now.rows c.pins.k c.args.pin) (sym c.parts.ensures ∙ c.if-not-parts.false)))
