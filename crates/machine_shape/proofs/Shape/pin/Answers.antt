use Rattle.machine_shape.proofs.Vocabulary.{refl, arith, pin_wire}
use Rattle.machine_shape.proofs.Totals.{pins_are}
use Rattle.machine_shape.proofs.Shape.pin.Goals as goal

pub returns-clause-wire : goal.returns-clause-wire
unfolding pin_wire
returns-clause-wire c = refl

pub returns-clause-within : goal.returns-clause-within
returns-clause-within c = let t = pins_are c.args.self.now in omega (arith, t.2, c.requires)
