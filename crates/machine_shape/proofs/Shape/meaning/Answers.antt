use Rattle.machine_shape.proofs.Vocabulary.{◌∙◌, sym, ap, subst, arith, levels_of, Means, meaning_of, IsSpot, rest, start, wires_in}
use Rattle.machine_shape.proofs.Whereabouts.{wire_placed}
use Rattle.machine_shape.proofs.Shape.meaning.Goals as goal

pub meaning_at-requires-clause-spot : goal.meaning_at-requires-clause-spot
meaning_at-requires-clause-spot c = subst (IsSpot (levels_of c.args.self.now))
    (sym (c.steps_of.ensures ∙ c.wire_place-place.ensures.path)) (wire_placed c.args.self.now c.args.w.0 c.requires).spot

pub meaning_at-requires-clause-within : goal.meaning_at-requires-clause-within
meaning_at-requires-clause-within c =
    let is = wire_placed c.args.self.now c.args.w.0 c.requires in
    let same = ap (λ p. wires_in (rest (levels_of c.args.self.now) p)) (c.steps_of.ensures ∙ c.wire_place-place.ensures.path) in
    let position = c.wire_place-place.ensures.position in
    let within = is.within in omega arith

pub returns : goal.returns
returns c =
    let is = wire_placed c.args.self.now c.args.w.0 c.requires in
    let first = ap (start wires_in (levels_of c.args.self.now)) (c.steps_of.ensures ∙ c.wire_place-place.ensures.path) in
    let position = c.wire_place-place.ensures.position in
    let number = is.number in
    subst (λ w. Means c.args.self.now w (meaning_of c.meaning_at.result)) (omega arith) c.meaning_at.ensures
