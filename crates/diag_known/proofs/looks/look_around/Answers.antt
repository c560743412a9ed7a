use Rattle.std.proofs.Common.{refl}
use Rattle.diag_known.proofs.Crosswise.{line_looked, looked_more, on_three, tap_looked}
use Rattle.diag_known.proofs.Settling.{on_both}
use Rattle.diag_known.proofs.looks.look_around.Goals as goal

pub returns-then-is_line-clause-looked : goal.returns-then-is_line-clause-looked
returns-then-is_line-clause-looked c =
    let m = c.args.facts.now.shape in
    let e = c.take_across.ensures in
    on_both c.take_across.result e.founds e.looked
    (λ founds looked. looked_more c.requires.looked founds c.wire_at-from.ensures.at (line_looked c.shape-shape.ensures c.wire_at-from.result.0 c.node_of-node.result.0 (c.the_numbering_is_sound.ensures.tree m)
    (c.the_crosspoints_are_sound.ensures.crosses m) (c.the_crosspoints_are_sound.ensures.meetings m) c.node_of-node.ensures.node (c.if-is_line.ensures.yes refl) looked))

pub returns-clause-looked : goal.returns-clause-looked
returns-clause-looked c =
    let m = c.args.facts.now.shape in
    let e = c.take_rows.ensures in
    on_three c.take_rows.result e.founds e.above e.here
    (λ founds above here. looked_more c.requires.looked founds c.wire_at-from.ensures.at (tap_looked c.shape-shape.ensures c.wire_at-from.result.0 c.node_of-node.result.0 (c.the_numbering_is_sound.ensures.tree m)
    (c.the_crosspoints_are_sound.ensures.crosses m) (c.the_crosspoints_are_sound.ensures.meetings m) c.node_of-node.ensures.node (c.the_numbering_is_sound.ensures.parents m) (c.if-is_line.ensures.no refl) above here))
