use Rattle.std.proofs.Common.{arith}
use Rattle.machine_shape.proofs.Totals.{pins_are}
use Rattle.machine_shape.proofs.Shape.pins.Goals as goal

pub returns-clause-pins : goal.returns-clause-pins
returns-clause-pins c = (pins_are c.args.self.now).0

pub returns-clause-some : goal.returns-clause-some
returns-clause-some c = let t = pins_are c.args.self.now in omega arith

pub returns-clause-few : goal.returns-clause-few
returns-clause-few c = let t = pins_are c.args.self.now in omega arith

pub returns-clause-most : goal.returns-clause-most
returns-clause-most c = let t = pins_are c.args.self.now in omega arith
