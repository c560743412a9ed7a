use Rattle.diag_growth.proofs.Tying.{two_pushed}
use Rattle.diag_growth.proofs.ties.push_low.Goals as goal

pub returns-clause-low : goal.returns-clause-low
returns-clause-low c = λ low. two_pushed c.args.ties.now.items _ _ _ _ c.in_ok-push.ensures.items c.in_ok-push-2.ensures.items
