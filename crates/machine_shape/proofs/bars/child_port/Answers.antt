use Rattle.std.proofs.Common.{arith}
use Rattle.machine_shape.proofs.Barred.{found_below, none_below}
use Rattle.machine_shape.proofs.bars.child_port.Goals as goal
use Rattle.machine_shape.proofs.bars.child_port.Goals.{else-child-bar-via-then-child-bar+else-position-bar, else-child-bar-via-else-child-bar}

pub returns-then-position-bar-clause-found : goal.returns-then-position-bar-clause-found
returns-then-position-bar-clause-found c =
    let f = found_below c.args.bar c.args.further _ _ c.requires.step c.divided-child.ensures.times c.divided-child.ensures.left c.if-child-bar.true c.if-position-bar.true in (omega arith, f.0, f.1)

pub returns-else-child-bar-clause-none : goal.returns-else-child-bar-clause-none
returns-else-child-bar-clause-none c = λ a h w e.
    let n = none_below c.args.bar c.args.further a c.requires.fits.each h w e in
    elim c.else-child-bar.branch [ else-child-bar-via-then-child-bar+else-position-bar w ↦ omega (arith, n, c.divided-child.ensures.times, c.divided-child.ensures.left) | else-child-bar-via-else-child-bar w ↦ omega (arith, n, c.divided-child.ensures.times, c.divided-child.ensures.left) ]
