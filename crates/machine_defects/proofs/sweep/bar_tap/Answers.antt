use Rattle.machine_defects.proofs.Vocabulary.{◌<◌, arith, lines_of}
use Rattle.machine_defects.proofs.Sweeping.{sweep_none, tap_some, tap_more, taps_done, no_tap}
use Rattle.machine_defects.proofs.SweptRows.{in_row, line_within, few_in_row}
use Rattle.machine_defects.proofs.sweep.bar_tap.Goals as goal

pub returns-in_default : goal.returns-in_default
returns-in_default c = no_tap c.args.shape.now (c.the_crosspoints_are_sound.ensures.crosses c.args.shape.now) c.args.n.0 c.args.w.0 c.args.crosses.now c.args.barred.now c.args.crosses.now c.args.barred.now c.args.shut.now c.requires.node 0 _ (omega (arith, c.lines-width.ensures.some, c.lines-width.ensures.lines)) c.line-first_line.ensures.wire c.in_default.ensures.none
    (sweep_none c.args.shape.now c.args.w.0 _ c.args.crosses.now c.args.barred.now c.args.shut.now c.requires.crosses c.requires.barred c.requires.shut c.requires.counted (λ x h. let no : ⊥ = omega (arith, h.2) in no))

pub lines-init : goal.lines-init
lines-init c = sweep_none c.args.shape.now c.args.w.0 _ c.args.crosses.now c.args.barred.now c.args.shut.now c.requires.crosses c.requires.barred c.requires.shut c.requires.counted (λ x h. let no : ⊥ = omega (arith, h.2) in no)

pub overflow_add-x : goal.overflow_add-x
overflow_add-x c =
    let f = few_in_row c.args.shape.now (c.the_crosspoints_are_sound.ensures.crosses c.args.shape.now) (c.crosspoints_stand_in_rows.ensures c.args.shape.now) c.args.n.0 c.args.w.0 c.requires.node _ c.line-first_line.ensures.wire _ c.in-Some.ensures.found c.lines.i (omega (arith, c.lines-test.true, c.lines-width.ensures.lines)) in
    omega (arith, f.0)

pub overflow_add-line : goal.overflow_add-line
overflow_add-line c =
    let f = few_in_row c.args.shape.now (c.the_crosspoints_are_sound.ensures.crosses c.args.shape.now) (c.crosspoints_stand_in_rows.ensures c.args.shape.now) c.args.n.0 c.args.w.0 c.requires.node _ c.line-first_line.ensures.wire _ c.in-Some.ensures.found c.lines.i (omega (arith, c.lines-test.true, c.lines-width.ensures.lines)) in
    omega (arith, f.1)

pub bar-requires-clause-listed : goal.bar-requires-clause-listed
bar-requires-clause-listed c =
    let r = in_row c.args.shape.now (c.the_crosspoints_are_sound.ensures.crosses c.args.shape.now) (c.crosspoints_stand_in_rows.ensures c.args.shape.now) c.args.n.0 c.args.w.0 c.requires.node _ c.line-first_line.ensures.wire _ c.in-Some.ensures.found c.lines.i (omega (arith, c.lines-test.true, c.lines-width.ensures.lines)) in
    omega (arith, r.0.0, c.lines.invariant.crosses_width)

pub bar-requires-clause-barred : goal.bar-requires-clause-barred
bar-requires-clause-barred c =
    let r = in_row c.args.shape.now (c.the_crosspoints_are_sound.ensures.crosses c.args.shape.now) (c.crosspoints_stand_in_rows.ensures c.args.shape.now) c.args.n.0 c.args.w.0 c.requires.node _ c.line-first_line.ensures.wire _ c.in-Some.ensures.found c.lines.i (omega (arith, c.lines-test.true, c.lines-width.ensures.lines)) in
    omega (arith, r.0.0, c.lines.invariant.barred_width)

pub bar-requires-clause-line : goal.bar-requires-clause-line
bar-requires-clause-line c =
    let l = line_within c.args.shape.now (c.the_crosspoints_are_sound.ensures.crosses c.args.shape.now) (c.crosspoints_stand_in_rows.ensures c.args.shape.now) c.args.n.0 c.args.w.0 c.requires.node _ c.line-first_line.ensures.wire _ c.in-Some.ensures.found c.lines.i (omega (arith, c.lines-test.true, c.lines-width.ensures.lines)) in
    omega (arith, l, c.lines.invariant.shut_width)

pub bar-requires-clause-some : goal.bar-requires-clause-some
bar-requires-clause-some c =
    tap_some c.args.shape.now (c.the_crosspoints_are_sound.ensures.crosses c.args.shape.now) c.args.n.0 c.args.w.0 _ _ _ _ _ c.requires.node _ _ _ c.lines.invariant
    (in_row c.args.shape.now (c.the_crosspoints_are_sound.ensures.crosses c.args.shape.now) (c.crosspoints_stand_in_rows.ensures c.args.shape.now) c.args.n.0 c.args.w.0 c.requires.node _ c.line-first_line.ensures.wire _ c.in-Some.ensures.found c.lines.i (omega (arith, c.lines-test.true, c.lines-width.ensures.lines))).0
    (line_within c.args.shape.now (c.the_crosspoints_are_sound.ensures.crosses c.args.shape.now) (c.crosspoints_stand_in_rows.ensures c.args.shape.now) c.args.n.0 c.args.w.0 c.requires.node _ c.line-first_line.ensures.wire _ c.in-Some.ensures.found c.lines.i (omega (arith, c.lines-test.true, c.lines-width.ensures.lines)))

pub lines-preserved : goal.lines-preserved
lines-preserved c =
    let lt : c.lines.i < lines_of c.args.shape.now c.args.n.0 = omega (arith, c.lines-test.true, c.lines-width.ensures.lines) in
    let r = in_row c.args.shape.now (c.the_crosspoints_are_sound.ensures.crosses c.args.shape.now) (c.crosspoints_stand_in_rows.ensures c.args.shape.now) c.args.n.0 c.args.w.0 c.requires.node _ c.line-first_line.ensures.wire _ c.in-Some.ensures.found c.lines.i lt in
    tap_more c.args.shape.now (c.the_crosspoints_are_sound.ensures.crosses c.args.shape.now) c.args.n.0 c.args.w.0 _ _ _ _ _ c.requires.node _ _ _ _ c.bar.ensures.listed c.bar.ensures.barred c.lines.i _ lt r.0 r.1
    (line_within c.args.shape.now (c.the_crosspoints_are_sound.ensures.crosses c.args.shape.now) (c.crosspoints_stand_in_rows.ensures c.args.shape.now) c.args.n.0 c.args.w.0 c.requires.node _ c.line-first_line.ensures.wire _ c.in-Some.ensures.found c.lines.i lt) c.lines.invariant c.bar.ensures.shut

pub returns : goal.returns
returns c = taps_done c.args.shape.now (c.the_crosspoints_are_sound.ensures.crosses c.args.shape.now) c.args.n.0 c.args.w.0 _ _ _ _ _ c.requires.node c.lines.i (omega (arith, c.lines-test.false, c.lines-width.ensures.lines)) c.lines.invariant
