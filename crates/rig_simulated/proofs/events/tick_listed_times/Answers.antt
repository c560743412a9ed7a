use Rattle.rig_simulated.proofs.Vocabulary.{◌∙◌, ◌+◌, IfSome, refl, subst, arith, SkipsTicks}
use Rattle.rig_simulated.proofs.{Eventing.tick_at_rest, SoFar.listed_begin, SoFar.listed_more}
use Rattle.rig_simulated.proofs.Periods.{past_none, past_kept, ticked_at_rest, ticked_by_skip}
use Rattle.rig_simulated.proofs.events.tick_listed_times.Goals as goal

pub ticks-init : goal.ticks-init
ticks-init c = (listed_begin c.requires.fits c.requires.tables c.requires.flips c.requires.sound c.requires.still, past_none c.args.frame.now.faults.now.faults c.args.frame.now.knots.now c.args.frame.now.low_pins.now c.args.gates.now c.forget.new.past 0 c.args.gates.now c.forget.ensures)

pub ticks-preserved : goal.ticks-preserved
ticks-preserved c = let old = c.ticks.invariant in let new = c.tick_listed-count.ensures in (listed_more new.fits new.tables new.flips new.sound new.still old.0 new.tick new.listed, past_kept old.0.ticked new.tick c.ticks.past old.1 c.look_back.new.past (c.in_default.ensures.kept refl))

pub returns-in-Some-clause-ticked : goal.returns-in-Some-clause-ticked
returns-in-Some-clause-ticked c =
    ticked_by_skip c.ticks.invariant.0.ticked c.tick_listed-count.ensures.tick c.ticks.past c.ticks.invariant.1
    (subst (λ r. IfSome r (λ left. SkipsTicks c.ticks.past (c.ticks.n + 1) c.args.ticks left c.tick_listed-count.new.gates)) c.in-Some.is c.look_back.ensures.skips) c.tick_listed_on.ensures.ticked

pub returns-then-events-eq0-clause-ticked : goal.returns-then-events-eq0-clause-ticked
returns-then-events-eq0-clause-ticked c =
    let old = c.ticks.invariant.0 in
    ticked_at_rest old.ticked c.ticks-test.true (tick_at_rest c.args.frame.now.faults.now.faults c.args.frame.now.knots.now c.args.frame.now.low_pins.now c.ticks.low_tables c.ticks.gates old.sound old.still (omega (arith, c.if-events-eq0.true)))
