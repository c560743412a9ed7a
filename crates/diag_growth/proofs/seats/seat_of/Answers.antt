use Rattle.diag_growth.proofs.Vocabulary.{◌<◌, ◌∙◌, refl, sym, subst, Shape, Ends, ends_of, crosses_of, IsRoute, Extends, HasWire}
use Rattle.diag_growth.proofs.Placing.{seat_over, far_end}
use Rattle.diag_growth.proofs.seats.seat_of.Goals as goal

pub routes-requires-clause-a : goal.routes-requires-clause-a
routes-requires-clause-a c = let p = c.requires.place in subst (HasWire c.args.without.now.steps) (sym p.found.place.near_is) p.stands

pub routes-requires-clause-b : goal.routes-requires-clause-b
routes-requires-clause-b c = c.requires.place.found.place.far.stands

pub routes-requires-clause-differ : goal.routes-requires-clause-differ
routes-requires-clause-differ c = λ e. let p = c.requires.place.found.place in p.far.differs (sym e ∙ p.near_is)

pub push_to-requires-clause-route : goal.push_to-requires-clause-route
push_to-requires-clause-route c = subst (λ (m : Shape). IsRoute m c.in_ok-near.far) (sym c.shape.ensures) c.in_ok-near.ensures.routes.right.route

pub push_to-requires-clause-cross : goal.push_to-requires-clause-cross
push_to-requires-clause-cross c = subst (λ (m : Shape). c.args.place.to_line.0 < crosses_of m) (sym c.shape.ensures) c.requires.place.found.place.to_line.kept.0

pub push_to-requires-clause-at : goal.push_to-requires-clause-at
push_to-requires-clause-at c = let p = c.requires.place.found.place in
    subst (λ (m : Shape). Ends (ends_of m c.args.place.to_line.0) c.in_ok-near.far.end c.args.place.line.0) (sym c.shape.ensures) (far_end c.in_ok-near.far c.in_ok-near.ensures.right_end p.line_is p.to_line)

pub returns : goal.returns
returns c = (
  seat_over c.args.t c.args.place c.requires.known (c.the_numbering_is_sound.ensures.numbered c.args.facts.now.shape) (c.the_numbering_is_sound.ensures.tree c.args.facts.now.shape)
      c.requires.outside c.requires.table c.requires.pins c.requires.place c.in_ok-near.ensures
      (subst (λ (m : Shape). Extends m c.args.place.to_line.0 c.in_ok-near.far c.push_to.new.self) c.shape.ensures c.in_ok-push_to.ensures.longer)
      (subst (λ (m : Shape). IsRoute m c.push_to.new.self) c.shape.ensures c.in_ok-push_to.ensures.right),
  refl,
)
