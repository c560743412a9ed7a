use Rattle.std.proofs.Common.{◌∙◌, arith}
use Rattle.machine_shape.proofs.Totals.{nodes_are}
use Rattle.machine_shape.proofs.Shape.nodes.Goals as goal

pub returns-clause-nodes : goal.returns-clause-nodes
returns-clause-nodes c = c.total.ensures ∙ (nodes_are c.args.self.now).0

pub returns-clause-few : goal.returns-clause-few
returns-clause-few c = let t = nodes_are c.args.self.now in let e = c.total.ensures ∙ t.0 in omega arith

pub returns-clause-root : goal.returns-clause-root
returns-clause-root c = let t = nodes_are c.args.self.now in let e = c.total.ensures ∙ t.0 in omega arith
