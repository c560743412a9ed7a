use Rattle.machine_shape.proofs.Vocabulary.{◌<◌, ◌∙◌, length, drop, sym, ap, subst, arith, All, levels_of, IsSpot}
use Rattle.machine_shape.proofs.{Barred.rest-drop, Naming.wire_steps, Naming.wire_named, Whereabouts.wire_placed}
use Rattle.machine_shape.proofs.Shape.wire_name.Goals as goal

pub name_of_way-name-requires-clause-short : goal.name_of_way-name-requires-clause-short
name_of_way-name-requires-clause-short c = subst (All (λ i. i < 10000000)) (sym (c.steps_of-way.ensures ∙ c.wire_place-place.ensures.path)) (wire_steps c.args.self.now c.args.w.0 c.requires).0

pub push_part-requires-clause-short : goal.push_part-requires-clause-short
push_part-requires-clause-short c = let w = wire_steps c.args.self.now c.args.w.0 c.requires in let e = c.wire_place-place.ensures.position in omega (arith, w.1)

pub returns : goal.returns
returns c =
    let e = c.steps_of-way.ensures ∙ c.wire_place-place.ensures.path in
    let s = subst (IsSpot (levels_of c.args.self.now)) (sym e) (wire_placed c.args.self.now c.args.w.0 c.requires).spot in
    wire_named c.args.self.now c.args.w.0 c.steps_of-way.result.now _ _ _ _ _ _ e
    (c.below-levels.ensures ∙ ap (drop (length c.steps_of-way.result.now)) c.levels_of-levels.ensures.levels ∙ sym (rest-drop s)) c.wire_place-place.ensures.position c.letter_of.ensures
    c.name_of_way-name.ensures.name c.push.ensures c.push_part.ensures
