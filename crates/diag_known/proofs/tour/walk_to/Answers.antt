use Rattle.diag_known.proofs.Vocabulary.{◌≡◌, ◌<◌, sym, subst, Shape, pins_of, IsRoute, at_pin, IsFrom}
use Rattle.diag_known.proofs.Touring.{root, root_walk}
use Rattle.diag_known.proofs.tour.walk_to.Goals as goal

pub route_at-requires : goal.route_at-requires
route_at-requires c = subst (λ (m : Shape). c.args.pin < pins_of m) (sym c.shape.ensures)
    (root c.requires.known c.requires.trees (record { wire = c.args.w.0; from = c.requires.from })).pin_at.within

pub visit-requires-clause-walk : goal.visit-requires-clause-walk
visit-requires-clause-walk c =
    root_walk (root c.requires.known c.requires.trees (record { wire = c.args.w.0; from = c.requires.from }))
    (subst (λ (m : Shape). c.in_ok-walk.walk ≡ at_pin m c.args.pin) c.shape.ensures c.in_ok-walk.ensures.route)
    (subst (λ (m : Shape). IsRoute m c.in_ok-walk.walk) c.shape.ensures c.in_ok-walk.ensures.right)

pub returns-clause-walk : goal.returns-clause-walk
returns-clause-walk c = c.in_ok-visit.ensures.on.walk

pub returns-clause-over : goal.returns-clause-over
returns-clause-over c =
    let is : c.in_ok-walk.walk ≡ at_pin c.args.facts.now.shape c.args.pin = subst (λ (m : Shape). c.in_ok-walk.walk ≡ at_pin m c.args.pin) c.shape.ensures c.in_ok-walk.ensures.route in
    c.in_ok-visit.ensures.over (subst (λ r. IsFrom c.args.reaches.now.items r.pin c.args.w.0) (sym is) c.requires.from)
