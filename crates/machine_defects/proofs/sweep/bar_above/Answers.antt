use Rattle.machine_defects.proofs.Sweeping.{swept_above, none_above}
use Rattle.machine_defects.proofs.sweep.bar_above.Goals as goal

pub returns-in-Some : goal.returns-in-Some
returns-in-Some c = swept_above c.args.shape.now c.args.n.0 c.args.w.0 _ _ _ _ _ _ c.in-Some.ensures.some.0 c.bar_tap.ensures

pub returns-in_default : goal.returns-in_default
returns-in_default c = none_above c.args.shape.now c.args.n.0 c.args.w.0 c.args.crosses.now c.args.barred.now c.args.shut.now c.in_default.ensures.none.0 c.requires.crosses c.requires.barred c.requires.shut c.requires.counted
