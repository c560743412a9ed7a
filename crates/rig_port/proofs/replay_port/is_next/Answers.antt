use Rattle.rig_port.proofs.Replayed.{line_found, next_is}
use Rattle.rig_port.proofs.replay_port.is_next.Goals as goal

pub returns-in-Some-clause-right : goal.returns-in-Some-clause-right
returns-in-Some-clause-right c = λ yes. next_is c.in-Some.count c.args.bytes.now c.args.request.now c.in-Some.ensures.within c.in-Some.ensures.line (c.is_line.ensures.right yes)

pub returns-in-Some-clause-wrong : goal.returns-in-Some-clause-wrong
returns-in-Some-clause-wrong c = λ unlike rest is at. c.is_line.ensures.wrong unlike (line_found c.in-Some.count c.args.bytes.now c.args.request.now rest c.in-Some.ensures.line is at)

pub returns-in-None-clause-wrong : goal.returns-in-None-clause-wrong
returns-in-None-clause-wrong c = λ _ rest is at. c.in-None.ensures.none c.args.request.now rest is at
