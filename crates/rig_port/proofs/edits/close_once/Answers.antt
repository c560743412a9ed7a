use Rattle.rig_port.proofs.Vocabulary.{◌∙◌, sym, Close}
use Rattle.machine_config.proofs.Changes.{closed_already}
use Rattle.rig_port.proofs.Edited.{one_edit}
use Rattle.rig_port.proofs.edits.close_once.Goals as goal

pub returns-in_ok-close_cross-clause-made : goal.returns-in_ok-close_cross-clause-made
returns-in_ok-close_cross-clause-made c = one_edit (Close c.args.c.0) c.args.set.now.config c.close_cross.new.self.config c.args.line.now.items c.put_word.new.line.items
    c.requires c.in_ok-put_word.ensures c.in_ok-close_cross.ensures.closed

pub returns-else-not-has_cross-clause-closed : goal.returns-else-not-has_cross-clause-closed
returns-else-not-has_cross-clause-closed c = sym (closed_already c.args.set.now.config c.args.c.0 (sym c.has_cross.ensures ∙ c.if-not-has_cross.false))
