use Rattle.std.proofs.Common.{arith}
use Rattle.diag_check.proofs.Fielding.{meet_some}
use Rattle.diag_check.proofs.fields.meet.Goals as goal

pub returns : goal.returns
returns c =
    let found = c.in-Some.ensures.found in
    let below = found.0 in
    let marks = c.requires.crosses in
    rw c.insert.ensures (meet_some c.args.shape.now c.args.tap.0 c.args.line.0 c.in-Some.cross.0 (c.the_crosspoints_are_sound.ensures.crosses c.args.shape.now) below found.1 (omega (arith, below, marks)))
