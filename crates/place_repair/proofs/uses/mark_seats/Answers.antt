use Rattle.std.proofs.Common.{◌≡◌, Bool, List, sym, ap, ◌∙◌, subst}
use Rattle.place_repair.proofs.Vocabulary.{wires_of, Configuration, IsOnPin, IsPinOf, IsMarked, inputs_within, outputs_within}
use Rattle.place_repair.proofs.Using.{seats_marked}
use Rattle.place_repair.proofs.uses.mark_seats.Goals as goal

pub mark_pins-requires-clause-sized : goal.mark_pins-requires-clause-sized
mark_pins-requires-clause-sized c = c.requires ∙ ap wires_of (sym (c.shape-shape.ensures.shape ∙ ap (λ (g : Configuration). g.shape) c.config-config.ensures.config))

pub mark_pins-requires-clause-within : goal.mark_pins-requires-clause-within
mark_pins-requires-clause-within c = inputs_within c.args.image.now c.config-config.ensures.right c.shape-shape.result (c.shape-shape.ensures.shape ∙ ap (λ (g : Configuration). g.shape) c.config-config.ensures.config) c.inputs.result.now c.inputs.ensures.pins

pub mark_pins-requires-2-clause-sized : goal.mark_pins-requires-2-clause-sized
mark_pins-requires-2-clause-sized c = c.mark_pins.ensures.sized ∙ c.requires ∙ ap wires_of (sym (c.shape-shape.ensures.shape ∙ ap (λ (g : Configuration). g.shape) c.config-config.ensures.config))

pub mark_pins-requires-2-clause-within : goal.mark_pins-requires-2-clause-within
mark_pins-requires-2-clause-within c = outputs_within c.args.image.now c.config-config.ensures.right c.shape-shape.result (c.shape-shape.ensures.shape ∙ ap (λ (g : Configuration). g.shape) c.config-config.ensures.config) c.outputs.result.now c.outputs.ensures.pins

pub mark_tables-requires : goal.mark_tables-requires
mark_tables-requires c = c.mark_pins-2.ensures.sized ∙ c.mark_pins.ensures.sized ∙ c.requires ∙ ap (λ (g : Configuration). wires_of g.shape) (sym c.config-config.ensures.config)

pub returns : goal.returns
returns c =
    let i = c.args.image.now in
    let shape : c.shape-shape.result ≡ i.config.shape = c.shape-shape.ensures.shape ∙ ap (λ (g : Configuration). g.shape) c.config-config.ensures.config in
    let old : List Bool = c.args.marks.now in
    let ins : IsMarked (IsPinOf i.config.shape i.inputs) old c.mark_pins.new.marks = subst (λ xs. IsMarked (IsPinOf i.config.shape xs) old c.mark_pins.new.marks) c.inputs.ensures.pins (subst (λ m. IsMarked (IsPinOf m c.inputs.result.now) old c.mark_pins.new.marks) shape c.mark_pins.ensures) in
    let outs : IsMarked (IsPinOf i.config.shape i.outputs) c.mark_pins.new.marks c.mark_pins-2.new.marks = subst (λ xs. IsMarked (IsPinOf i.config.shape xs) c.mark_pins.new.marks c.mark_pins-2.new.marks) c.outputs.ensures.pins (subst (λ m. IsMarked (IsPinOf m c.outputs.result.now) c.mark_pins.new.marks c.mark_pins-2.new.marks) shape c.mark_pins-2.ensures) in
    seats_marked i old c.mark_pins.new.marks c.mark_pins-2.new.marks c.mark_tables.new.marks ins outs (subst (λ (g : Configuration). IsMarked (IsOnPin g) c.mark_pins-2.new.marks c.mark_tables.new.marks) c.config-config.ensures.config c.mark_tables.ensures)
