use Rattle.diag_published.proofs.Pairing.{meeting_some, meeting_none}
use Rattle.diag_published.proofs.pairs.keeps_meeting.Goals as goal

pub returns-in-Some : goal.returns-in-Some
returns-in-Some c = meeting_some c.args.facts.now c.shape.result c.args.tap.0 c.args.line.0 c.in-Some.cross.0 _ c.shape.ensures (c.the_laws_hold.ensures c.args.facts.now.shape) (rw c.in-Some.is at c.cross.ensures.found) c.keeps_cross.ensures

pub returns-in-None : goal.returns-in-None
returns-in-None c = meeting_none c.args.facts.now c.shape.result c.args.tap.0 c.args.line.0 c.shape.ensures (rw c.in-None.is at c.cross.ensures.none)
