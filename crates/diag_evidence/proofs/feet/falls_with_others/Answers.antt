use Rattle.std.proofs.Common.{◌≡◌, ◌&&◌, ◌<◌, not, true, false, Bool, ℕ, refl, sym, ap, ◌∙◌, arith, ◌==◌, is_some}
use Rattle.diag_evidence.proofs.Vocabulary.{nat_tests, pin_wire, pins_of, pin_of, is_hung, read_under}
use Rattle.diag_evidence.proofs.Rows.{number_not_yet, number_shown, and_not, and_neither, and_last, and_all}
use Rattle.diag_evidence.proofs.feet.falls_with_others.Goals as goal

pub pins-preserved-then-k-pin : goal.pins-preserved-then-k-pin
pins-preserved-then-k-pin c =
    let q = λ (k : ℕ). not (k == c.args.pin) && (is_hung c.args.forest.now (pin_wire c.args.forest.now.shape k) && not (read_under c.args.reads.now.rows k c.args.pin)) in
    let is : not (c.pins.k == c.args.pin) ≡ false = (let e = c.if-k-pin.true in grind (arith, nat_tests, e)) in
    number_not_yet q c.pins.k c.pins.invariant (and_not (not (c.pins.k == c.args.pin)) (is_hung c.args.forest.now (pin_wire c.args.forest.now.shape c.pins.k)) (not (read_under c.args.reads.now.rows c.pins.k c.args.pin)) is)

pub pins-preserved-then-is_none : goal.pins-preserved-then-is_none
pins-preserved-then-is_none c =
    let q = λ (k : ℕ). not (k == c.args.pin) && (is_hung c.args.forest.now (pin_wire c.args.forest.now.shape k) && not (read_under c.args.reads.now.rows k c.args.pin)) in
    let is : is_hung c.args.forest.now (pin_wire c.args.forest.now.shape c.pins.k) ≡ false =
    ap (λ w. is_some (pin_of c.args.forest.now w)) (ap (λ m. pin_wire m c.pins.k) (sym c.shape-shape.ensures.shape) ∙ sym c.pin.ensures.wire) ∙ ap is_some (sym c.pin_of.ensures) ∙ c.is_none.ensures ∙ ap not c.if-is_none.true in
    number_not_yet q c.pins.k c.pins.invariant (and_neither (not (c.pins.k == c.args.pin)) (is_hung c.args.forest.now (pin_wire c.args.forest.now.shape c.pins.k)) (not (read_under c.args.reads.now.rows c.pins.k c.args.pin)) is)

pub returns-then-not-read_under : goal.returns-then-not-read_under
returns-then-not-read_under c =
    let q = λ (k : ℕ). not (k == c.args.pin) && (is_hung c.args.forest.now (pin_wire c.args.forest.now.shape k) && not (read_under c.args.reads.now.rows k c.args.pin)) in
    let other : not (c.pins.k == c.args.pin) ≡ true = (let n = c.if-k-pin.false in grind (arith, nat_tests, n)) in
    let hung : is_hung c.args.forest.now (pin_wire c.args.forest.now.shape c.pins.k) ≡ true =
    ap (λ w. is_some (pin_of c.args.forest.now w)) (ap (λ m. pin_wire m c.pins.k) (sym c.shape-shape.ensures.shape) ∙ sym c.pin.ensures.wire) ∙ ap is_some (sym c.pin_of.ensures) ∙ c.is_none.ensures ∙ ap not c.if-is_none.false in
    let falls : not (read_under c.args.reads.now.rows c.pins.k c.args.pin) ≡ true = ap not (sym c.read_under.ensures ∙ c.if-not-read_under.true) in
    let below = c.pins-test.true in let m = ap pins_of c.shape-shape.ensures.shape in let n = c.pins-k-end.ensures.pins in
    sym (number_shown q _ c.pins.k (omega (arith, below, m, n)) (and_all (not (c.pins.k == c.args.pin)) (is_hung c.args.forest.now (pin_wire c.args.forest.now.shape c.pins.k)) (not (read_under c.args.reads.now.rows c.pins.k c.args.pin)) other hung falls))

pub pins-preserved : goal.pins-preserved
pins-preserved c =
    let q = λ (k : ℕ). not (k == c.args.pin) && (is_hung c.args.forest.now (pin_wire c.args.forest.now.shape k) && not (read_under c.args.reads.now.rows k c.args.pin)) in
    let falls : not (read_under c.args.reads.now.rows c.pins.k c.args.pin) ≡ false = ap not (sym c.read_under.ensures ∙ c.if-not-read_under.false) in
    number_not_yet q c.pins.k c.pins.invariant (and_last (not (c.pins.k == c.args.pin)) (is_hung c.args.forest.now (pin_wire c.args.forest.now.shape c.pins.k)) (not (read_under c.args.reads.now.rows c.pins.k c.args.pin)) falls)
