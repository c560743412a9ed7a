use Rattle.diag_known.proofs.Vocabulary.{◌≡◌, ℕ, true, sym, subst, Shape, IsRoute, Extends, HasWire, IsFromAt}
use Rattle.diag_known.proofs.{Places.at_within, Touring.walk_known, Touring.left_from, Touring.went_down}
use Rattle.diag_known.proofs.tour.go_down.Goals as goal

pub place-from-requires : goal.place-from-requires
place-from-requires c = subst (HasWire c.args.known.now.steps) (sym c.end.ensures) (walk_known c.requires.trees c.requires.walk)

pub next_below-requires-clause-left : goal.next_below-requires-clause-left
next_below-requires-clause-left c = subst (λ (p : ℕ). IsFromAt c.args.known.now.steps c.args.reaches.now.items p c.down.i) (sym c.pin.ensures) (left_from c.down.invariant)

pub places_below-requires-clause-within : goal.places_below-requires-clause-within
places_below-requires-clause-within c = (at_within c.down.invariant.end, at_within c.down.invariant.low_at)

pub down-preserved : goal.down-preserved
down-preserved c =
    went_down c.down.invariant c.pin.ensures c.in-Some.ensures.hangs
    (subst (λ (m : Shape). c.in-Some.down.left ≡ true → Extends m c.in-Some.down.foot.cross.0 c.down.walk c.take.new.walk × IsRoute m c.take.new.walk × (c.take.new.ups.items ≡ c.down.ups.items)) c.shape-shape.ensures c.in_ok-take.ensures.left)
    c.in_ok-take.ensures.right c.places_below.ensures.leads
