use Rattle.diag_known.proofs.Touring.{walks_pushed, stay_pushed, on_pushed}
use Rattle.diag_known.proofs.tour.add_walk.Goals as goal

pub returns-clause-walks : goal.returns-clause-walks
returns-clause-walks c = walks_pushed c.visit_at.new.routes.items c.push.new.self.items c.in_ok-walk.walk c.in_ok-push.ensures.items
    c.in_ok-visit_at.ensures.walks c.in_ok-walk.ensures.walk

pub returns-clause-stay : goal.returns-clause-stay
returns-clause-stay c = λ u on. stay_pushed c.visit_at.new.routes.items c.push.new.self.items c.in_ok-walk.walk c.in_ok-push.ensures.items u
    (c.in_ok-visit_at.ensures.stay u on)

pub returns-clause-on : goal.returns-clause-on
returns-clause-on c = λ pin from. on_pushed c.visit_at.new.routes.items c.push.new.self.items c.in_ok-walk.walk c.in_ok-push.ensures.items c.args.w.0
    c.in_ok-walk.ensures.over
