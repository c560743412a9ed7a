use Rattle.diag_published.proofs.Listing.{first_none, first_pushed}
use Rattle.diag_published.proofs.lists.pins_in.Goals as goal

pub pins-init : goal.pins-init
pins-init c = first_none _ _ c.new-pins.ensures.items

pub pins-preserved : goal.pins-preserved
pins-preserved c = first_pushed c.pins.pins.items c.in_ok-push.ensures.items c.pins.invariant c.pin.ensures.wire c.pin.ensures.within
