use Rattle.rig_port.specs.Requests.{Open}
use Rattle.rig_port.proofs.Edited.{one_edit}
use Rattle.rig_port.proofs.edits.open.Goals as goal

pub returns-clause-made : goal.returns-clause-made
returns-clause-made c = one_edit (Open c.args.c.0) c.args.set.now.config c.open_cross.new.self.config c.args.line.now.items c.put_word.new.line.items
    c.requires c.in_ok-put_word.ensures c.open_cross.ensures.open
