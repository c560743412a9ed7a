use Rattle.machine_shape.proofs.Vocabulary.{◌<◌, ◌∙◌, sym, ap, subst, All, way_name}
use Rattle.machine_shape.proofs.Naming.{table_steps, table_name-way}
use Rattle.machine_shape.proofs.Shape.table_name.Goals as goal

pub name_of_way-requires-clause-short : goal.name_of_way-requires-clause-short
name_of_way-requires-clause-short c = subst (All (λ i. i < 10000000)) (sym (c.steps_of.ensures ∙ c.table_way-way.ensures)) (table_steps c.args.self.now c.args.t.0 c.requires)

pub returns : goal.returns
returns c = c.name_of_way.ensures.name ∙ ap way_name (c.steps_of.ensures ∙ c.table_way-way.ensures) ∙ sym (table_name-way c.args.self.now c.args.t.0)
