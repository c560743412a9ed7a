use Rattle.std.proofs.Common.{◌≡◌, not, true, false, sym, ap, ◌∙◌, is_some}
use Rattle.diag_evidence.proofs.Vocabulary.{pin_wire, pin_of, is_hung, swings, parts_from_others}
use Rattle.diag_evidence.proofs.Rows.{not_at_first, and_neither, and_rest}
use Rattle.diag_evidence.proofs.joins.joins_alone.Goals as goal

pub returns-then-is_none : goal.returns-then-is_none
returns-then-is_none c =
    let hung : is_hung c.args.forest.now (pin_wire c.args.forest.now.shape c.args.pin) ≡ false =
    ap (λ w. is_some (pin_of c.args.forest.now w)) (ap (λ m. pin_wire m c.args.pin) (sym c.shape.ensures.shape) ∙ sym c.pin-wire.ensures.wire) ∙ ap is_some (sym c.pin_of.ensures) ∙ c.is_none.ensures ∙ ap not c.if-is_none.true in
    sym (not_at_first (is_hung c.args.forest.now (pin_wire c.args.forest.now.shape c.args.pin)) _ hung)

pub returns-then-not-swings : goal.returns-then-not-swings
returns-then-not-swings c =
    sym (and_neither (is_hung c.args.forest.now (pin_wire c.args.forest.now.shape c.args.pin)) (swings c.args.reads.now.rows c.args.pin)
    (parts_from_others c.args.forest.now c.args.reads.now.rows c.args.pin (pin_wire c.args.forest.now.shape c.args.pin)) (sym c.swings.ensures ∙ c.if-not-swings.true))

pub returns : goal.returns
returns c =
    let wire = c.pin-wire.ensures.wire ∙ ap (λ m. pin_wire m c.args.pin) c.shape.ensures.shape in
    let hung : is_hung c.args.forest.now (pin_wire c.args.forest.now.shape c.args.pin) ≡ true =
    ap (λ w. is_some (pin_of c.args.forest.now w)) (sym wire) ∙ ap is_some (sym c.pin_of.ensures) ∙ c.is_none.ensures ∙ ap not c.if-is_none.false in
    c.parts_from_others.ensures ∙ ap (parts_from_others c.args.forest.now c.args.reads.now.rows c.args.pin) wire
    ∙ sym (and_rest (is_hung c.args.forest.now (pin_wire c.args.forest.now.shape c.args.pin)) (swings c.args.reads.now.rows c.args.pin) _ hung (sym c.swings.ensures ∙ c.if-not-swings.false))
