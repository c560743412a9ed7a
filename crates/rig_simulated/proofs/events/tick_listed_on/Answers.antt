use Rattle.std.proofs.Common.{◌∙◌, refl, arith}
use Rattle.rig_simulated.proofs.{Eventing.tick_at_rest, Periods.ticked_at_rest, SoFar.listed_begin, SoFar.listed_more}
use Rattle.rig_simulated.proofs.events.tick_listed_on.Goals as goal

pub ticks-init : goal.ticks-init
ticks-init c = listed_begin c.requires.fits c.requires.tables c.requires.flips c.requires.sound c.requires.still

pub ticks-preserved : goal.ticks-preserved
ticks-preserved c = let new = c.tick_listed.ensures in listed_more new.fits new.tables new.flips new.sound new.still c.ticks.invariant new.tick new.listed

pub returns-then-events-eq0-clause-ticked : goal.returns-then-events-eq0-clause-ticked
returns-then-events-eq0-clause-ticked c =
    let old = c.ticks.invariant in
    ticked_at_rest old.ticked c.ticks-test.true (tick_at_rest c.args.frame.now.faults.now.faults c.args.frame.now.knots.now c.args.frame.now.low_pins.now c.ticks.low_tables c.ticks.gates old.sound old.still (omega (arith, c.if-events-eq0.true)))
