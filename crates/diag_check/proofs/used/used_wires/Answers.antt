use Rattle.diag_check.proofs.Vocabulary.{false, replicate, ap, ◌∙◌, wires_of, Configuration}
use Rattle.diag_check.proofs.Using.{closed_counts, closed_within, table_counts, tables_within, first_pins, last_pins, used_of}
use Rattle.diag_check.proofs.used.used_wires.Goals as goal

pub mark_pins-requires-clause-pins : goal.mark_pins-requires-clause-pins
mark_pins-requires-clause-pins c = first_pins c.args.image.now c.config-config.ensures.right c.shape-shape.result (c.shape-shape.ensures.shape ∙ ap (λ (g : Configuration). g.shape) c.config-config.ensures.config) c.inputs.result.now c.inputs.ensures.pins

pub mark_pins-requires-2-clause-pins : goal.mark_pins-requires-2-clause-pins
mark_pins-requires-2-clause-pins c = last_pins c.args.image.now c.config-config.ensures.right c.shape-shape.result (c.shape-shape.ensures.shape ∙ ap (λ (g : Configuration). g.shape) c.config-config.ensures.config) c.outputs.result.now c.outputs.ensures.pins

pub mark_ends-requires-clause-crosses : goal.mark_ends-requires-clause-crosses
mark_ends-requires-clause-crosses c = closed_within c.args.image.now c.config-config.result.now.config c.config-config.ensures.config c.closed.result.now c.closed.ensures c.config-config.ensures.right
    c.shape-shape.result (c.shape-shape.ensures.shape ∙ ap (λ (g : Configuration). g.shape) c.config-config.ensures.config)

pub mark_tables-requires-clause-tables : goal.mark_tables-requires-clause-tables
mark_tables-requires-clause-tables c = tables_within c.args.image.now c.config-config.result.now.config c.config-config.ensures.config c.tables_on.result.now c.tables_on.ensures c.config-config.ensures.right
    c.shape-shape.result (c.shape-shape.ensures.shape ∙ ap (λ (g : Configuration). g.shape) c.config-config.ensures.config)

pub returns-clause-used : goal.returns-clause-used
returns-clause-used c =
    let e = c.shape-shape.ensures.shape ∙ ap (λ (g : Configuration). g.shape) c.config-config.ensures.config in
    used_of c.args.image.now c.shape-shape.result e c.inputs.result.now c.outputs.result.now c.closed.result.now c.tables_on.result.now
    c.in_ok-used.used c.mark_pins.new.used c.mark_pins-2.new.used c.mark_ends.new.used c.mark_tables.new.used c.inputs.ensures.pins c.outputs.ensures.pins
    (c.in_ok-used.ensures ∙ ap (λ n. replicate n false) (c.wires.ensures.wires ∙ ap wires_of e))
    (closed_counts c.args.image.now c.config-config.result.now.config c.config-config.ensures.config c.closed.result.now c.closed.ensures)
    (table_counts c.args.image.now c.config-config.result.now.config c.config-config.ensures.config c.tables_on.result.now c.tables_on.ensures)
    c.mark_pins.ensures c.mark_pins-2.ensures c.mark_ends.ensures c.mark_tables.ensures
