use Rattle.rig_simulated.proofs.{Periods.ticked_when_same, SoFar.ticks_begin, SoFar.ticks_more}
use Rattle.rig_simulated.proofs.cycle.tick_on.Goals as goal

pub ticks-init : goal.ticks-init
ticks-init c = ticks_begin c.requires.fits c.requires.tables c.requires.clear

pub ticks-preserved : goal.ticks-preserved
ticks-preserved c = ticks_more c.tick.ensures.fits c.tick.ensures.tables c.ticks.invariant c.tick.ensures.clear c.tick.ensures.tick

pub returns-then-not-tick-clause-ticked : goal.returns-then-not-tick-clause-ticked
returns-then-not-tick-clause-ticked c = ticked_when_same c.ticks.invariant.ticked c.tick.ensures.tick c.ticks-test.true (c.tick.ensures.same c.if-not-tick.true)
