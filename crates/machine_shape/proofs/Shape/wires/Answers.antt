use Rattle.std.proofs.Common.{◌∙◌, arith}
use Rattle.machine_shape.proofs.Totals.{wires_are}
use Rattle.machine_shape.proofs.Shape.wires.Goals as goal

pub returns-clause-wires : goal.returns-clause-wires
returns-clause-wires c = c.total.ensures ∙ (wires_are c.args.self.now).0

pub returns-clause-few : goal.returns-clause-few
returns-clause-few c = let t = wires_are c.args.self.now in let e = c.total.ensures ∙ t.0 in omega arith
