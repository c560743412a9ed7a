use Rattle.diag_published.proofs.Listing.{first_none, first_pushed}
use Rattle.diag_published.proofs.lists.lines_in.Goals as goal

pub lines-init : goal.lines-init
lines-init c = first_none _ _ c.new-lines.ensures.items

pub lines-preserved : goal.lines-preserved
lines-preserved c = first_pushed c.lines.lines.items c.in_ok-push.ensures.items c.lines.invariant c.line.ensures.wire c.line.ensures.within
