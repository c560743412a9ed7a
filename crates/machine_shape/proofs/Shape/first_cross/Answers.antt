use Rattle.machine_shape.proofs.Vocabulary.{sym, ap, ◌∙◌, subst, levels_of, IsSpot, start, crosses_in}
use Rattle.machine_shape.proofs.{InRows.first_cross_is, Numbering.way_is}
use Rattle.machine_shape.proofs.Shape.first_cross.Goals as goal

pub first_cross-requires : goal.first_cross-requires
first_cross-requires c = subst (IsSpot (levels_of c.args.self.now)) (sym (c.steps_of.ensures ∙ c.node_way-to_node.ensures)) (way_is c.args.self.now c.args.n.0 c.requires).0

pub returns : goal.returns
returns c = c.first_cross.ensures ∙ ap (start crosses_in (levels_of c.args.self.now)) (c.steps_of.ensures ∙ c.node_way-to_node.ensures) ∙ first_cross_is c.args.self.now c.args.n.0
