use Rattle.std.proofs.Common.{arith}
use Rattle.place_repair.proofs.Grouping.{root_here, root_above}
use Rattle.place_repair.proofs.groups.next_root.Goals as goal

pub bounds-roots-up : goal.bounds-roots-up
bounds-roots-up c = (let l = c.requires.low c.args.wire c.requires.within in let e = c.requires.before.sized in let ne = c.if-up-wire.false in omega (arith, l, e, ne))

pub returns-then-up-wire : goal.returns-then-up-wire
returns-then-up-wire c = root_here c.args.parents.now c.requires.low c.args.wire c.args.roots.now c.requires.within c.if-up-wire.true c.requires.before

pub returns : goal.returns
returns c = root_above c.args.parents.now c.requires.low c.args.wire c.args.roots.now c.requires.within c.if-up-wire.false c.requires.before
