use Rattle.diag_growth.proofs.Searching.{it_meets}
use Rattle.diag_growth.proofs.search.arm_over.Goals as goal

pub returns-then-not-has-clause-none : goal.returns-then-not-has-clause-none
returns-then-not-has-clause-none c = λ j. c.has.ensures.unknown c.if-not-has.true j.known

pub returns-in_default-clause-none : goal.returns-in_default-clause-none
returns-in_default-clause-none c = λ j. c.in_default.ensures.none j.one

pub returns-in_default-meeting-clause-none : goal.returns-in_default-meeting-clause-none
returns-in_default-meeting-clause-none c = λ j. c.in_default-meeting.ensures.none j.other

pub returns-clause-joins : goal.returns-clause-joins
returns-clause-joins c = record { known = c.has.ensures.known c.if-not-has.false; one = it_meets c.in-Some.ensures.meets; other = it_meets c.in-Some-meeting.ensures.meets }
