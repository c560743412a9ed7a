use Rattle.machine_shape.proofs.Weighing.{start_last}
use Rattle.machine_shape.proofs.tree.start_in_hextant.Goals as goal

pub returns-in-len1-up : goal.returns-in-len1-up
returns-in-len1-up c = start_last c.args.hextants c.args.way.now c.in-len1-up.len_at_least
