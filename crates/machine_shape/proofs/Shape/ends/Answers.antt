use Rattle.machine_shape.proofs.Vocabulary.{◌<◌, ◌+◌, ◌%◌, ◌∙◌, sym, ap, subst, wires_of, ends_of}
use Rattle.machine_shape.proofs.Meeting.{ends_found}
use Rattle.machine_shape.proofs.Shape.ends.Goals as goal

pub tap_at-tap-requires-clause-within : goal.tap_at-tap-requires-clause-within
tap_at-tap-requires-clause-within c = (ends_found c.args.self.now c.args.c.0 _ _ c.requires c.crossing_of-position.ensures.bar c.crossing_of-position.ensures.position).inside

pub returns-clause-ends : goal.returns-clause-ends
returns-clause-ends c =
    let f = ends_found c.args.self.now c.args.c.0 _ _ c.requires c.crossing_of-position.ensures.bar c.crossing_of-position.ensures.position in
    ap (λ k. (k, c.crossing_of-position.result.0.first + c.crossing_of-position.result.0.ports + c.crossing_of-position.result.1 % c.crossing_of-position.result.0.lines)) (c.tap_at-tap.ensures ∙ f.tap)
    ∙ ap (λ k. ((ends_of c.args.self.now c.args.c.0).0, k)) f.line

pub returns-clause-tap : goal.returns-clause-tap
returns-clause-tap c =
    let f = ends_found c.args.self.now c.args.c.0 _ _ c.requires c.crossing_of-position.ensures.bar c.crossing_of-position.ensures.position in
    subst (λ k. k < wires_of c.args.self.now) (sym (c.tap_at-tap.ensures ∙ f.tap)) f.tap_below
