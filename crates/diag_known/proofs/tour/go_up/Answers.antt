use Rattle.diag_known.proofs.Vocabulary.{◌<◌, sym, subst, arith, nil_from_length, Shape, Ends, ends_of, crosses_of, IsRoute, Extends}
use Rattle.diag_known.proofs.Touring.{up_within, up_ends, went_up, up_all}
use Rattle.diag_known.proofs.tour.go_up.Goals as goal

pub push_to-requires-clause-cross : goal.push_to-requires-clause-cross
push_to-requires-clause-cross c = subst (λ (m : Shape). c.in-Some.foot.cross.0 < crosses_of m) (sym c.shape-shape.ensures) (up_within c.up.ups.items c.pop.new.self.items c.in-Some.foot c.in-Some.ensures.items c.up.invariant)

pub push_to-requires-clause-at : goal.push_to-requires-clause-at
push_to-requires-clause-at c =
    let ends = up_ends c.up.ups.items c.pop.new.self.items c.in-Some.foot c.in-Some.ensures.items c.up.invariant in
    subst (λ (m : Shape). Ends (ends_of m c.in-Some.foot.cross.0) c.up.walk.end c.upper.result.0) (sym c.shape-shape.ensures) (subst (λ w. Ends (ends_of c.args.facts.now.shape c.in-Some.foot.cross.0) c.up.walk.end w) (sym c.upper.ensures) ends)

pub up-preserved : goal.up-preserved
up-preserved c = went_up c.up.ups.items c.pop.new.self.items c.in-Some.foot c.in-Some.ensures.items c.up.invariant
    (subst (λ (m : Shape). Extends m c.in-Some.foot.cross.0 c.up.walk c.push_to.new.self) c.shape-shape.ensures c.in_ok-push_to.ensures.longer)
    (subst (λ (m : Shape). IsRoute m c.push_to.new.self) c.shape-shape.ensures c.in_ok-push_to.ensures.right)

pub returns : goal.returns
returns c = up_all c.up.ups.items (nil_from_length c.up.ups.items (let none = c.in_default.ensures.cases.0 in omega (arith, none))) c.up.invariant
