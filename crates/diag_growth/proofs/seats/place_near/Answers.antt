use Rattle.diag_growth.proofs.Searching.{no_place_arms}
use Rattle.diag_growth.proofs.seats.place_near.Goals as goal

pub returns-in_default-clause-none : goal.returns-in_default-clause-none
returns-in_default-clause-none c = λ line l. no_place_arms ((rw c.in_default.is at c.in_ok-arms.ensures.none) line)

pub place_from-requires-clause-arms : goal.place_from-requires-clause-arms
place_from-requires-clause-arms c = rw c.in-Some.is at c.in_ok-arms.ensures.arms
