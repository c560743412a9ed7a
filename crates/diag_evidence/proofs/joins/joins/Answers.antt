use Rattle.std.proofs.Common.{◌≡◌, ◌&&◌, Bool, true, false, List, All, map, sym, ap, subst, ◌∙◌}
use Rattle.diag_evidence.proofs.Vocabulary.{All-map, WireTest, swings, IsFoot, over_of, overs, pin_at, is_shown, turned, pin_p, pin_q, parts_from_hung}
use Rattle.diag_evidence.proofs.Rows.{not_at_first, not_at_second, and_rest}
use Rattle.diag_evidence.proofs.joins.joins.Goals as goal

pub returns-then-not-is_shown : goal.returns-then-not-is_shown
returns-then-not-is_shown c = sym (not_at_first (is_shown c.args.forest.now c.args.hangs.now c.args.views.now.all.rows c.args.views.now.without_over.rows c.args.hang) _ (sym c.is_shown.ensures ∙ c.if-not-is_shown.true))

pub is_shown-requires-2-clause-over : goal.is_shown-requires-2-clause-over
is_shown-requires-2-clause-over c =
    subst (λ (hs : List WireTest). All (λ h. IsFoot c.args.forest.now (over_of h)) hs) (sym c.requires.swapped)
    (All-map (λ h. IsFoot c.args.forest.now (over_of h)) turned c.args.hangs.now c.requires.other)

pub is_shown-requires-2-clause-pins : goal.is_shown-requires-2-clause-pins
is_shown-requires-2-clause-pins c = c.deref-2.ensures.value ∙ c.requires.pins.other ∙ ap (λ (hs : List WireTest). map (pin_at c.args.forest.now) (overs hs)) (sym c.requires.swapped)

pub returns-then-not-is_shown-2 : goal.returns-then-not-is_shown-2
returns-then-not-is_shown-2 c =
    let rows = c.args.views.now.all.rows in
    let no_other = c.args.views.now.without_other.rows in
    let second : is_shown c.args.forest.now (map turned c.args.hangs.now) rows no_other (turned c.args.hang) ≡ false =
    ap (λ hs. is_shown c.args.forest.now hs rows no_other (turned c.args.hang)) (sym c.requires.swapped) ∙ ap (is_shown c.args.forest.now c.args.swapped.now rows no_other) (sym c.turn.ensures) ∙ sym c.is_shown-2.ensures ∙ c.if-not-is_shown-2.true in
    sym (not_at_second (is_shown c.args.forest.now c.args.hangs.now rows c.args.views.now.without_over.rows c.args.hang) _ (not_at_first (is_shown c.args.forest.now (map turned c.args.hangs.now) rows no_other (turned c.args.hang)) _ second))

pub returns-then-not-swings : goal.returns-then-not-swings
returns-then-not-swings c =
    let rows = c.args.views.now.all.rows in
    let no_over = c.args.views.now.without_over.rows in
    let no_other = c.args.views.now.without_other.rows in
    let third : swings no_over (pin_q c.args.forest.now c.args.hang) ≡ false = ap (swings no_over) (sym c.pin_at-q.ensures.pin) ∙ sym c.swings.ensures ∙ c.if-not-swings.true in
    sym (not_at_second (is_shown c.args.forest.now c.args.hangs.now rows no_over c.args.hang) _ (not_at_second (is_shown c.args.forest.now (map turned c.args.hangs.now) rows no_other (turned c.args.hang)) _
    (not_at_first (swings no_over (pin_q c.args.forest.now c.args.hang)) _ third)))

pub returns-then-not-parts_from_hung : goal.returns-then-not-parts_from_hung
returns-then-not-parts_from_hung c =
    let rows = c.args.views.now.all.rows in
    let no_over = c.args.views.now.without_over.rows in
    let no_other = c.args.views.now.without_other.rows in
    let fourth : parts_from_hung c.args.forest.now no_over (pin_q c.args.forest.now c.args.hang) ≡ false = ap (parts_from_hung c.args.forest.now no_over) (sym c.pin_at-q.ensures.pin) ∙ sym c.parts_from_hung.ensures ∙ c.if-not-parts_from_hung.true in
    sym (not_at_second (is_shown c.args.forest.now c.args.hangs.now rows no_over c.args.hang) _ (not_at_second (is_shown c.args.forest.now (map turned c.args.hangs.now) rows no_other (turned c.args.hang)) _
    (not_at_second (swings no_over (pin_q c.args.forest.now c.args.hang)) _ (not_at_first (parts_from_hung c.args.forest.now no_over (pin_q c.args.forest.now c.args.hang)) _ fourth))))

pub returns : goal.returns
returns c =
    let rows = c.args.views.now.all.rows in
    let no_over = c.args.views.now.without_over.rows in
    let no_other = c.args.views.now.without_other.rows in
    let trees = c.args.forest.now in
    let first : is_shown trees c.args.hangs.now rows no_over c.args.hang ≡ true = sym c.is_shown.ensures ∙ c.if-not-is_shown.false in
    let second : is_shown trees (map turned c.args.hangs.now) rows no_other (turned c.args.hang) ≡ true =
    ap (λ hs. is_shown trees hs rows no_other (turned c.args.hang)) (sym c.requires.swapped) ∙ ap (is_shown trees c.args.swapped.now rows no_other) (sym c.turn.ensures) ∙ sym c.is_shown-2.ensures ∙ c.if-not-is_shown-2.false in
    let third : swings no_over (pin_q trees c.args.hang) ≡ true = ap (swings no_over) (sym c.pin_at-q.ensures.pin) ∙ sym c.swings.ensures ∙ c.if-not-swings.false in
    let fourth : parts_from_hung trees no_over (pin_q trees c.args.hang) ≡ true = ap (parts_from_hung trees no_over) (sym c.pin_at-q.ensures.pin) ∙ sym c.parts_from_hung.ensures ∙ c.if-not-parts_from_hung.false in
    c.parts_from_hung-2.ensures ∙ ap (parts_from_hung trees no_other) c.pin_at-p.ensures.pin
    ∙ sym (and_rest (is_shown trees c.args.hangs.now rows no_over c.args.hang) (is_shown trees (map turned c.args.hangs.now) rows no_other (turned c.args.hang)) _ first second
    ∙ and_rest (swings no_over (pin_q trees c.args.hang)) (parts_from_hung trees no_over (pin_q trees c.args.hang)) _ third fourth)
