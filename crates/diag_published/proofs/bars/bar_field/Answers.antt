use Rattle.std.proofs.Common.{◌∙◌}
use Rattle.diag_published.proofs.Fielding.{within_marks, bar_is_field}
use Rattle.diag_published.proofs.bars.bar_field.Goals as goal

pub add_wires-requires : goal.add_wires-requires
add_wires-requires c = within_marks c.args.shape.now c.args.bar.now.taps.items _ c.in_ok-field.ensures.field.wires c.requires.taps

pub add_wires-requires-2 : goal.add_wires-requires-2
add_wires-requires-2 c = within_marks c.args.shape.now c.args.bar.now.lines.items _ (c.add_wires.ensures.len ∙ c.in_ok-field.ensures.field.wires) c.requires.lines

pub returns : goal.returns
returns c = bar_is_field c.args.shape.now c.args.node.0 c.args.bar.now.taps.items c.args.bar.now.lines.items _ _ _ _ c.requires.bar c.requires.tap_count c.requires.line_count
    c.in_ok-field.ensures.field.wires c.in_ok-field.ensures.wires c.in_ok-field.ensures.field.crosses c.in_ok-field.ensures.crosses c.add_wires.ensures c.add_wires-2.ensures c.add_crosses.ensures
