use Rattle.std.proofs.Common.{rules, ◌<◌, length, arith, slice_index}
use Rattle.rig_simulated.proofs.Chaining.{set_within, forgotten_more}
use Rattle.rig_simulated.proofs.chains.forget_last.Goals as goal

pub pins-init : goal.pins-init
pins-init c = record { len = search rules; few = λ n h. h; none = λ k h. absurd (omega (arith, h)) }

pub pins-preserved : goal.pins-preserved
pins-preserved c =
    let class = slice_index c.args.pins.now c.pins.k in
    let inside : class < length c.pins.last.items = (let h = c.requires c.pins.k 0 c.pins-test.true in omega (arith, h, c.pins.invariant.len)) in
    record {
      len = search rules;
      few = λ n h. set_within c.pins.last.items class 0 n (c.pins.invariant.few n h) (omega arith) inside;
      none = forgotten_more c.pins.last.items c.args.pins.now c.pins.k c.pins.invariant.none inside;
    }

pub returns-clause-none : goal.returns-clause-none
returns-clause-none c = λ k h. c.pins.invariant.none k (omega (arith, h, c.pins-test.false))
