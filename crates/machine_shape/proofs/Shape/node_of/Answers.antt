use Rattle.machine_shape.proofs.Vocabulary.{◌<◌, ◌∙◌, sym, ap, subst, take, levels_of, node_at, nodes_of, IsSpot}
use Rattle.machine_shape.proofs.Whereabouts.{wire_leads}
use Rattle.machine_shape.proofs.Shape.node_of.Goals as goal

pub node_number-requires : goal.node_number-requires
node_number-requires c = subst (IsSpot (levels_of c.args.self.now)) (sym (c.trunk_of.ensures ∙ ap (take 3) c.wire_place-place.ensures.path)) (wire_leads c.args.self.now c.args.w.0 c.requires).spot

pub returns-clause-node : goal.returns-clause-node
returns-clause-node c = c.node_number.ensures ∙ ap (node_at c.args.self.now) (c.trunk_of.ensures ∙ ap (take 3) c.wire_place-place.ensures.path) ∙ sym (wire_leads c.args.self.now c.args.w.0 c.requires).number

pub returns-clause-within : goal.returns-clause-within
returns-clause-within c = subst (λ k. k < nodes_of c.args.self.now)
    (sym (c.node_number.ensures ∙ ap (node_at c.args.self.now) (c.trunk_of.ensures ∙ ap (take 3) c.wire_place-place.ensures.path) ∙ sym (wire_leads c.args.self.now c.args.w.0 c.requires).number)) (wire_leads c.args.self.now c.args.w.0 c.requires).within
