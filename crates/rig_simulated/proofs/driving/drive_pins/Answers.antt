use Rattle.std.proofs.Common.{◌∙◌, ◌≤◌, length, sym, arith}
use Rattle.rig_simulated.proofs.Tracking.{alike_whole}
use Rattle.rig_simulated.proofs.driving.drive_pins.Goals as goal

pub returns-clause-drive : goal.returns-clause-drive
returns-clause-drive c =
    let all : length c.args.drive.now ≤ c.further.from = omega (arith, c.further-test.false, c.len.ensures) in
    alike_whole c.further.kept.drive c.args.drive.now c.further.from c.further.invariant.same (c.further.invariant.tracked.drive ∙ sym c.requires.drive) all
