use Rattle.std.proofs.Common.{refl}
use Rattle.diag_known.proofs.Linking.{links_of_line, links_of_tap, none_earlier, none_in_order, none_listed}
use Rattle.diag_known.proofs.links.links_of.Goals as goal

pub put_row-requires-clause-right : goal.put_row-requires-clause-right
put_row-requires-clause-right c = none_listed c.args.shape.now c.args.field.now c.args.wire.0 c.new-links.result.items c.new-links.ensures.items

pub put_row-requires-clause-ordered : goal.put_row-requires-clause-ordered
put_row-requires-clause-ordered c = none_in_order c.args.shape.now c.new-links.result.items c.new-links.ensures.items

pub put_row-requires-clause-earlier : goal.put_row-requires-clause-earlier
put_row-requires-clause-earlier c = none_earlier c.args.shape.now c.new-links.result.items c.node_of-node.result.0 c.new-links.ensures.items

pub returns-then-is_line : goal.returns-then-is_line
returns-then-is_line c =
    let m = c.args.shape.now in
    links_of_line c.args.wire.0 c.node_of-node.result.0 (c.the_numbering_is_sound.ensures.tree m) (c.the_crosspoints_are_sound.ensures.crosses m) (c.the_crosspoints_are_sound.ensures.meetings m) c.node_of-node.ensures.node
    c.in_ok-put_row.ensures.right c.in_ok-put_row.ensures.ordered (c.if-is_line.ensures.yes refl) c.in_ok-put_row.ensures.listed

pub returns : goal.returns
returns c =
    let m = c.args.shape.now in
    links_of_tap c.args.wire.0 c.node_of-node.result.0 (c.the_numbering_is_sound.ensures.tree m) (c.the_crosspoints_are_sound.ensures.crosses m) (c.the_crosspoints_are_sound.ensures.meetings m) c.node_of-node.ensures.node
    c.in_ok-put_rows.ensures.right c.in_ok-put_rows.ensures.ordered (c.the_numbering_is_sound.ensures.parents m) (c.if-is_line.ensures.no refl) c.in_ok-put_rows.ensures.above c.in_ok-put_rows.ensures.here
