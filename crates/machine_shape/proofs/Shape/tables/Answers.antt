use Rattle.std.proofs.Common.{◌∙◌, arith}
use Rattle.machine_shape.proofs.Totals.{tables_are}
use Rattle.machine_shape.proofs.Shape.tables.Goals as goal

pub returns-clause-tables : goal.returns-clause-tables
returns-clause-tables c = c.total.ensures ∙ (tables_are c.args.self.now).0

pub returns-clause-few : goal.returns-clause-few
returns-clause-few c = let t = tables_are c.args.self.now in let e = c.total.ensures ∙ t.0 in omega arith
