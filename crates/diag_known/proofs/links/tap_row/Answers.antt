use Rattle.std.proofs.Common.{◌<◌, refl, arith}
use Rattle.machine_shape.specs.Vocabulary.{lines_of}
use Rattle.diag_known.proofs.Linking.{tap_row_is, tap_row_none}
use Rattle.diag_known.proofs.links.tap_row.Goals as goal

pub returns-in-Some-clause-row : goal.returns-in-Some-clause-row
returns-in-Some-clause-row c =
    let m = c.args.shape.now in
    let some : 0 < lines_of m c.args.node.0 = (let few = c.lines-lines.ensures.some in let is = c.lines-lines.ensures.lines in omega (arith, few, is)) in
    tap_row_is (c.the_numbering_is_sound.ensures.tree m) (c.the_crosspoints_are_sound.ensures.crosses m) (c.the_crosspoints_are_sound.ensures.meetings m) (c.crosspoints_stand_in_rows.ensures m) (c.ports_and_lines_ascend.ensures m) c.args.node.0 c.args.tap.0 c.line.result.0 c.requires.node c.line.ensures.wire
    c.in-Some.first.0 some c.in-Some.ensures.found _ refl refl

pub returns-in-None-clause-none : goal.returns-in-None-clause-none
returns-in-None-clause-none c =
    let m = c.args.shape.now in
    let some : 0 < lines_of m c.args.node.0 = (let few = c.lines-lines.ensures.some in let is = c.lines-lines.ensures.lines in omega (arith, few, is)) in
    tap_row_none (c.the_numbering_is_sound.ensures.tree m) (c.the_crosspoints_are_sound.ensures.crosses m) (c.the_crosspoints_are_sound.ensures.meetings m) (c.crosspoints_stand_in_rows.ensures m) (c.ports_and_lines_ascend.ensures m) c.args.node.0 c.args.tap.0 c.line.result.0 c.requires.node c.line.ensures.wire
    some c.in-None.ensures.none
