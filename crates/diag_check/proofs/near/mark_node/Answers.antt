use Rattle.diag_check.proofs.Surrounding.{node_wires}
use Rattle.diag_check.proofs.near.mark_node.Goals as goal

pub returns : goal.returns
returns c = node_wires c.args.shape.now c.args.node.0 c.mark_side.ensures c.mark_side-2.ensures
