use Rattle.std.proofs.Common.{arith}
use Rattle.place_route.proofs.Deep.{depth_few}
use Rattle.place_route.proofs.ticks.ticks_of.Goals as goal

pub overflow_cast-result : goal.overflow_cast-result
overflow_cast-result c = omega (arith, depth_few c.args.network.now c.in_ok-depth.depth c.in_ok-depth.ensures, c.requires.few)

pub returns-clause-few : goal.returns-clause-few
returns-clause-few c = omega (arith, depth_few c.args.network.now c.in_ok-depth.depth c.in_ok-depth.ensures, c.requires.few)
