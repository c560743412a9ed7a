use Rattle.machine_defects.proofs.Vocabulary.{refl, ◌<◌, arith, taps_of}
use Rattle.machine_defects.proofs.Sweeping.{sweep_none, line_some, line_more, lines_done}
use Rattle.machine_defects.proofs.SweptRows.{at_distance, few_at_distance, not_a_line}
use Rattle.machine_defects.proofs.sweep.bar_line.Goals as goal

pub returns-then-w-first_line : goal.returns-then-w-first_line
returns-then-w-first_line c =
    not_a_line c.args.shape.now (c.the_crosspoints_are_sound.ensures.crosses c.args.shape.now) (c.crosspoints_stand_in_rows.ensures c.args.shape.now) c.args.n.0 c.args.w.0 c.requires.node _ c.line-first_line.ensures.wire c.args.crosses.now c.args.barred.now c.args.shut.now c.requires.crosses c.requires.barred c.requires.shut c.requires.counted
    (λ j lj e. let no : ⊥ = omega (arith, c.if-w-first_line.true, e) in no)

pub returns-then-position-width : goal.returns-then-position-width
returns-then-position-width c =
    not_a_line c.args.shape.now (c.the_crosspoints_are_sound.ensures.crosses c.args.shape.now) (c.crosspoints_stand_in_rows.ensures c.args.shape.now) c.args.n.0 c.args.w.0 c.requires.node _ c.line-first_line.ensures.wire c.args.crosses.now c.args.barred.now c.args.shut.now c.requires.crosses c.requires.barred c.requires.shut c.requires.counted
    (λ j lj e. let no : ⊥ = omega (arith, c.if-w-first_line.false, c.if-position-width.true, c.lines-width.ensures.lines, lj, e) in no)

pub taps-init : goal.taps-init
taps-init c =
    sweep_none c.args.shape.now c.args.w.0 _ c.args.crosses.now c.args.barred.now c.args.shut.now c.requires.crosses c.requires.barred c.requires.shut c.requires.counted
    (λ x h. let no : ⊥ = omega (arith, h.2) in no)

pub overflow_mul-x : goal.overflow_mul-x
overflow_mul-x c =
    let f = few_at_distance c.args.shape.now (c.the_crosspoints_are_sound.ensures.crosses c.args.shape.now) (c.crosspoints_stand_in_rows.ensures c.args.shape.now) c.args.n.0 c.args.w.0 c.requires.node _ c.line-first_line.ensures.wire _ _ c.first_cross-first.ensures c.lines-width.ensures.lines c.taps.i (omega (arith, c.taps-test.true, c.taps-i-end.ensures)) (omega (arith, c.if-position-width.false)) (omega (arith, c.if-w-first_line.false)) in omega (arith, f)

pub overflow_add-x : goal.overflow_add-x
overflow_add-x c =
    let f = few_at_distance c.args.shape.now (c.the_crosspoints_are_sound.ensures.crosses c.args.shape.now) (c.crosspoints_stand_in_rows.ensures c.args.shape.now) c.args.n.0 c.args.w.0 c.requires.node _ c.line-first_line.ensures.wire _ _ c.first_cross-first.ensures c.lines-width.ensures.lines c.taps.i (omega (arith, c.taps-test.true, c.taps-i-end.ensures)) (omega (arith, c.if-position-width.false)) (omega (arith, c.if-w-first_line.false)) in omega (arith, f)

pub overflow_add-x-in-taps : goal.overflow_add-x-in-taps
overflow_add-x-in-taps c =
    let f = few_at_distance c.args.shape.now (c.the_crosspoints_are_sound.ensures.crosses c.args.shape.now) (c.crosspoints_stand_in_rows.ensures c.args.shape.now) c.args.n.0 c.args.w.0 c.requires.node _ c.line-first_line.ensures.wire _ _ c.first_cross-first.ensures c.lines-width.ensures.lines c.taps.i (omega (arith, c.taps-test.true, c.taps-i-end.ensures)) (omega (arith, c.if-position-width.false)) (omega (arith, c.if-w-first_line.false)) in omega (arith, f)

pub bar-requires-clause-listed : goal.bar-requires-clause-listed
bar-requires-clause-listed c =
    let r = at_distance c.args.shape.now (c.the_crosspoints_are_sound.ensures.crosses c.args.shape.now) (c.crosspoints_stand_in_rows.ensures c.args.shape.now) c.args.n.0 c.args.w.0 c.requires.node _ c.line-first_line.ensures.wire _ _ c.first_cross-first.ensures c.lines-width.ensures.lines c.taps.i (omega (arith, c.taps-test.true, c.taps-i-end.ensures)) (omega (arith, c.if-position-width.false)) (omega (arith, c.if-w-first_line.false)) in omega (arith, r.0, c.taps.invariant.crosses_width)

pub bar-requires-clause-barred : goal.bar-requires-clause-barred
bar-requires-clause-barred c =
    let r = at_distance c.args.shape.now (c.the_crosspoints_are_sound.ensures.crosses c.args.shape.now) (c.crosspoints_stand_in_rows.ensures c.args.shape.now) c.args.n.0 c.args.w.0 c.requires.node _ c.line-first_line.ensures.wire _ _ c.first_cross-first.ensures c.lines-width.ensures.lines c.taps.i (omega (arith, c.taps-test.true, c.taps-i-end.ensures)) (omega (arith, c.if-position-width.false)) (omega (arith, c.if-w-first_line.false)) in omega (arith, r.0, c.taps.invariant.barred_width)

pub bar-requires-clause-some : goal.bar-requires-clause-some
bar-requires-clause-some c =
    line_some c.args.shape.now (c.the_crosspoints_are_sound.ensures.crosses c.args.shape.now) c.args.n.0 c.args.w.0 _ _ _ _ _ c.requires.node _ _ _ c.taps.invariant (at_distance c.args.shape.now (c.the_crosspoints_are_sound.ensures.crosses c.args.shape.now) (c.crosspoints_stand_in_rows.ensures c.args.shape.now) c.args.n.0 c.args.w.0 c.requires.node _ c.line-first_line.ensures.wire _ _ c.first_cross-first.ensures c.lines-width.ensures.lines c.taps.i (omega (arith, c.taps-test.true, c.taps-i-end.ensures)) (omega (arith, c.if-position-width.false)) (omega (arith, c.if-w-first_line.false))) c.requires.wire

pub taps-preserved : goal.taps-preserved
taps-preserved c =
    let li : c.taps.i < taps_of c.args.shape.now c.args.n.0 = omega (arith, c.taps-test.true, c.taps-i-end.ensures) in
    line_more c.args.shape.now (c.the_crosspoints_are_sound.ensures.crosses c.args.shape.now) c.args.n.0 c.args.w.0 _ _ _ _ _ c.requires.node _ _ _ _ c.bar.ensures.listed c.bar.ensures.barred c.taps.i _ li
    (at_distance c.args.shape.now (c.the_crosspoints_are_sound.ensures.crosses c.args.shape.now) (c.crosspoints_stand_in_rows.ensures c.args.shape.now) c.args.n.0 c.args.w.0 c.requires.node _ c.line-first_line.ensures.wire _ _ c.first_cross-first.ensures c.lines-width.ensures.lines c.taps.i (omega (arith, c.taps-test.true, c.taps-i-end.ensures)) (omega (arith, c.if-position-width.false)) (omega (arith, c.if-w-first_line.false))) refl c.requires.wire c.taps.invariant c.bar.ensures.shut

pub returns : goal.returns
returns c =
    lines_done c.args.shape.now (c.the_crosspoints_are_sound.ensures.crosses c.args.shape.now) c.args.n.0 c.args.w.0 _ _ _ _ _ c.requires.node c.taps.i (omega (arith, c.taps-test.false, c.taps-i-end.ensures)) c.taps.invariant
