use Rattle.diag_published.proofs.Listing.{first_none, first_pushed}
use Rattle.diag_published.proofs.lists.taps_in.Goals as goal

pub taps-init : goal.taps-init
taps-init c = first_none _ _ c.new-taps.ensures.items

pub taps-preserved : goal.taps-preserved
taps-preserved c = first_pushed c.taps.taps.items c.in_ok-push.ensures.items c.taps.invariant c.tap.ensures.wire c.tap.ensures.within
