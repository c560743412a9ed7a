use Rattle.diag_known.proofs.Touring.{they_meet}
use Rattle.diag_known.proofs.tour.next_below.Goals as goal

pub returns-in-None-clause-meet : goal.returns-in-None-clause-meet
returns-in-None-clause-meet c = they_meet c.requires.known c.requires.trees c.requires.left c.requires.right c.in_default.ensures.stays c.in-None.ensures.stays
