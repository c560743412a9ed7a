use Rattle.machine_shape.proofs.Vocabulary.{◌∙◌, sym, ap, subst, IsBarAt, levels_of, IsSpot, start, crosses_in}
use Rattle.machine_shape.proofs.{Barred.few_wires, Meeting.positive_step, Whereabouts.wire_placed}
use Rattle.machine_shape.proofs.ends.line_site.Goals as goal

pub bar_of-requires : goal.bar_of-requires
bar_of-requires c = subst (IsSpot (levels_of c.args.shape)) (sym (c.steps_of-way.ensures ∙ c.wire_place-place.ensures.path)) (wire_placed c.args.shape c.args.wire c.requires).spot

pub first_cross-requires : goal.first_cross-requires
first_cross-requires c = subst (IsSpot (levels_of c.args.shape)) (sym (c.steps_of-way.ensures ∙ c.wire_place-place.ensures.path)) (wire_placed c.args.shape c.args.wire c.requires).spot

pub returns-clause-bar : goal.returns-clause-bar
returns-clause-bar c = subst (λ p. IsBarAt (levels_of c.args.shape) p c.bar_of.result) (c.steps_of-way.ensures ∙ c.wire_place-place.ensures.path) c.bar_of.ensures.bar

pub returns-clause-step : goal.returns-clause-step
returns-clause-step c = positive_step c.args.shape c.args.wire c.bar_of.result c.requires
    (subst (λ p. IsBarAt (levels_of c.args.shape) p c.bar_of.result) (c.steps_of-way.ensures ∙ c.wire_place-place.ensures.path) c.bar_of.ensures.bar)

pub returns-clause-few : goal.returns-clause-few
returns-clause-few c = few_wires c.args.shape

pub returns-clause-first : goal.returns-clause-first
returns-clause-first c = c.first_cross.ensures ∙ ap (start crosses_in (levels_of c.args.shape)) (c.steps_of-way.ensures ∙ c.wire_place-place.ensures.path)
