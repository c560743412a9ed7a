use Rattle.rig_port.proofs.Held.{more_posted}
use Rattle.rig_port.proofs.port_board.add_edits.Goals as goal

pub returns-clause-posted : goal.returns-clause-posted
returns-clause-posted c = λ device was.
    more_posted device c.args.link.now.set.config c.put_edits.new.set.config c.args.link.now.line.items c.put_edits.new.line.items c.args.link.now.anew
    c.in_ok-put_edits.ensures.shape was c.in_ok-put_edits.ensures.made
