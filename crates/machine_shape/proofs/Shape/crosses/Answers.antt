use Rattle.std.proofs.Common.{◌∙◌, arith}
use Rattle.machine_shape.proofs.Totals.{crosses_are}
use Rattle.machine_shape.proofs.Shape.crosses.Goals as goal

pub returns-clause-crosses : goal.returns-clause-crosses
returns-clause-crosses c = c.total.ensures ∙ (crosses_are c.args.self.now).0

pub returns-clause-few : goal.returns-clause-few
returns-clause-few c = let t = crosses_are c.args.self.now in let e = c.total.ensures ∙ t.0 in omega arith
