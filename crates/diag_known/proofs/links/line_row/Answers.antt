use Rattle.std.proofs.Common.{refl}
use Rattle.diag_known.proofs.Linking.{line_row_is, line_row_none, no_taps_row}
use Rattle.diag_known.proofs.links.line_row.Goals as goal

pub returns-then-taps-eq0-clause-none : goal.returns-then-taps-eq0-clause-none
returns-then-taps-eq0-clause-none c = no_taps_row c.args.shape.now c.args.line.0 c.args.node.0 c.taps.result c.taps.ensures c.if-taps-eq0.true

pub returns-in-Some-clause-row : goal.returns-in-Some-clause-row
returns-in-Some-clause-row c =
    let m = c.args.shape.now in
    line_row_is (c.the_numbering_is_sound.ensures.tree m) (c.the_crosspoints_are_sound.ensures.crosses m) (c.the_crosspoints_are_sound.ensures.meetings m) (c.crosspoints_stand_in_rows.ensures m) (c.the_crosspoints_are_sound.ensures.taps m) c.args.node.0 c.args.line.0 c.tap.result.0 c.requires.node c.requires.home c.tap.ensures.wire
    c.in-Some.first.0 c.in-Some.ensures.found _ refl c.lines.ensures.lines

pub returns-in-None-clause-none : goal.returns-in-None-clause-none
returns-in-None-clause-none c =
    let m = c.args.shape.now in
    line_row_none (c.the_numbering_is_sound.ensures.tree m) (c.the_crosspoints_are_sound.ensures.crosses m) (c.the_crosspoints_are_sound.ensures.meetings m) (c.crosspoints_stand_in_rows.ensures m) (c.the_crosspoints_are_sound.ensures.taps m) c.args.node.0 c.args.line.0 c.tap.result.0 c.requires.node c.requires.home c.tap.ensures.wire
    c.taps.result c.taps.ensures c.if-taps-eq0.false c.in-None.ensures.none
