use Rattle.diag_growth.proofs.Vocabulary.{arith, before_has}
use Rattle.diag_growth.proofs.Looking.{takes_none, takes_one, not_earlier}
use Rattle.diag_growth.proofs.look.put_earlier.Goals as goal

pub returns-in_default : goal.returns-in_default
returns-in_default c = takes_none c.args.others.now.items (λ before. c.in_default.ensures.unknown (before_has before))

pub returns-then-at-place : goal.returns-then-at-place
returns-then-at-place c = takes_none c.args.others.now.items (λ before. not_earlier c.requires.known c.in-Some.ensures.known (omega arith) before)

pub returns : goal.returns
returns c = takes_one c.args.others.now.items (record { place = c.in-Some.at; early = omega arith; at = c.in-Some.ensures.known }) c.in_ok-push.ensures.items
