use Rattle.machine_shape.proofs.Vocabulary.{◌<◌, ◌∙◌, sym, ap, subst, levels_of, node_at, nodes_of, IsSpot}
use Rattle.machine_shape.proofs.Whereabouts.{cross_leads}
use Rattle.machine_shape.proofs.Shape.node_of_cross.Goals as goal

pub node_number-requires : goal.node_number-requires
node_number-requires c = subst (IsSpot (levels_of c.args.self.now)) (sym (c.steps_of.ensures ∙ c.cross_place-place.ensures.path)) (cross_leads c.args.self.now c.args.c.0 c.requires).spot

pub returns-clause-node : goal.returns-clause-node
returns-clause-node c = c.node_number.ensures ∙ ap (node_at c.args.self.now) (c.steps_of.ensures ∙ c.cross_place-place.ensures.path) ∙ sym (cross_leads c.args.self.now c.args.c.0 c.requires).number

pub returns-clause-within : goal.returns-clause-within
returns-clause-within c = subst (λ k. k < nodes_of c.args.self.now)
    (sym (c.node_number.ensures ∙ ap (node_at c.args.self.now) (c.steps_of.ensures ∙ c.cross_place-place.ensures.path) ∙ sym (cross_leads c.args.self.now c.args.c.0 c.requires).number)) (cross_leads c.args.self.now c.args.c.0 c.requires).within
