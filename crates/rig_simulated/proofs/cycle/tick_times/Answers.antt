use Rattle.rig_simulated.proofs.Vocabulary.{◌+◌, IfSome, refl, subst, SkipsTicks}
use Rattle.rig_simulated.proofs.Periods.{past_none, past_kept, ticked_by_skip, ticked_when_same}
use Rattle.rig_simulated.proofs.SoFar.{ticks_begin, ticks_more}
use Rattle.rig_simulated.proofs.cycle.tick_times.Goals as goal

pub ticks-init : goal.ticks-init
ticks-init c = (ticks_begin c.requires.fits c.requires.tables c.requires.clear, past_none c.args.frame.now.faults.now.faults c.args.frame.now.knots.now c.args.frame.now.low_pins.now c.args.gates.now c.forget.new.past 0 c.args.gates.now c.forget.ensures)

pub ticks-preserved : goal.ticks-preserved
ticks-preserved c = let old = c.ticks.invariant in (ticks_more c.tick.ensures.fits c.tick.ensures.tables old.0 c.tick.ensures.clear c.tick.ensures.tick, past_kept old.0.ticked c.tick.ensures.tick c.ticks.past old.1 c.look_back.new.past (c.in_default.ensures.kept refl))

pub returns-in-Some-clause-ticked : goal.returns-in-Some-clause-ticked
returns-in-Some-clause-ticked c =
    ticked_by_skip c.ticks.invariant.0.ticked c.tick.ensures.tick c.ticks.past c.ticks.invariant.1
    (subst (λ r. IfSome r (λ left. SkipsTicks c.ticks.past (c.ticks.n + 1) c.args.ticks left c.tick.new.gates)) c.in-Some.is c.look_back.ensures.skips) c.tick_on.ensures.ticked

pub returns-then-not-tick-clause-ticked : goal.returns-then-not-tick-clause-ticked
returns-then-not-tick-clause-ticked c = ticked_when_same c.ticks.invariant.0.ticked c.tick.ensures.tick c.ticks-test.true (c.tick.ensures.same c.if-not-tick.true)
