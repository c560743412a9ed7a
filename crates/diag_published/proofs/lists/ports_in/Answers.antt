use Rattle.diag_published.proofs.Listing.{first_none, first_pushed}
use Rattle.diag_published.proofs.lists.ports_in.Goals as goal

pub ports-init : goal.ports-init
ports-init c = first_none _ _ c.new-ports.ensures.items

pub ports-preserved : goal.ports-preserved
ports-preserved c = first_pushed c.ports.ports.items c.in_ok-push.ensures.items c.ports.invariant c.port.ensures.wire c.port.ensures.within
