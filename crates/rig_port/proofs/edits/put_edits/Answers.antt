use Rattle.std.proofs.Common.{◌∙◌}
use Rattle.rig_port.proofs.Edited.{more_edits}
use Rattle.rig_port.proofs.edits.put_edits.Goals as goal

pub returns-clause-made : goal.returns-clause-made
returns-clause-made c =
    let first = c.in_ok-open_gone.ensures.shape in
    let second = c.in_ok-close_new.ensures.shape ∙ first in
    let third = c.in_ok-give_all.ensures.shape ∙ second in
    let line = c.args.line.now.items in
    let g = c.args.set.now.config in
    more_edits g c.give_all.new.set.config c.give_ticks.new.set.config line c.give_all.new.line.items c.give_ticks.new.line.items third
    (more_edits g c.close_new.new.set.config c.give_all.new.set.config line c.close_new.new.line.items c.give_all.new.line.items second
    (more_edits g c.open_gone.new.set.config c.close_new.new.set.config line c.open_gone.new.line.items c.close_new.new.line.items first
    c.in_ok-open_gone.ensures.made c.in_ok-close_new.ensures.made)
    c.in_ok-give_all.ensures.made)
    c.in_ok-give_ticks.ensures.made
