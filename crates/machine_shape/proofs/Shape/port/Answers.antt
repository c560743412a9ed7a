use Rattle.std.proofs.Common.{arith}
use Rattle.machine_shape.proofs.Totals.{ports_within}
use Rattle.machine_shape.proofs.Shape.port.Goals as goal

pub overflow_add-result : goal.overflow_add-result
overflow_add-result c = let p = ports_within c.args.self.now c.args.n.0 c.args.k c.requires.position in let e = c.node_bar.ensures.ports in let f = c.node_bar.ensures.fits.all in let w = c.node_bar.ensures.few in omega arith

pub returns-clause-within : goal.returns-clause-within
returns-clause-within c = let p = ports_within c.args.self.now c.args.n.0 c.args.k c.requires.position in let e = c.node_bar.ensures.ports in let f = c.node_bar.ensures.fits.all in let s = c.node_bar.ensures.some in omega arith
