use Rattle.rig_port.proofs.Replayed.{too_long}
use Rattle.rig_port.proofs.replay_port.give_line.Goals as goal

pub returns-in_default-clause-none : goal.returns-in_default-clause-none
returns-in_default-clause-none c = λ line rest is few at. c.in_default.ensures.none line rest is at

pub returns-then-reply-count-clause-none : goal.returns-then-reply-count-clause-none
returns-then-reply-count-clause-none c = λ line rest is few at.
    too_long c.in-Some.count _ c.args.bytes.now line rest c.in-Some.ensures.within c.in-Some.ensures.line c.if-reply-count.true is few at
