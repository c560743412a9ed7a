use Rattle.rig_simulated.proofs.Periods.{skips, kept_now, kept_still, kept_then}
use Rattle.rig_simulated.proofs.past.look_back.Goals as goal

pub returns-then-gives_again-clause-skips : goal.returns-then-gives_again-clause-skips
returns-then-gives_again-clause-skips c =
    let again = c.gives_again.ensures.again c.if-gives_again.true in
    skips c.args.past.now c.args.made c.args.ticks c.args.gates.now again.0 again.1 c.requires again.2

pub returns-then-made-at-clause-kept : goal.returns-then-made-at-clause-kept
returns-then-made-at-clause-kept c = λ _.
    kept_then c.args.past.now c.gives_again.new.past c.keep.new.past c.args.made c.args.gates.now
    (kept_still c.args.past.now c.gives_again.new.past c.args.made c.args.gates.now c.gives_again.ensures.outputs c.gives_again.ensures.at)
    (kept_now c.gives_again.new.past c.keep.new.past c.args.made c.args.gates.now c.keep.ensures)
