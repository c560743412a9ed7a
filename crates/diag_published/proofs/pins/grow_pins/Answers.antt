use Rattle.diag_published.proofs.Vocabulary.{◌≡◌, length, subst, ap, ◌∙◌, Shape, wires_of, crosses_of, held}
use Rattle.diag_published.proofs.{Fielding.within_marks, Laid.on_ok, Trunking.pins_grown, Trunking.few_loads}
use Rattle.diag_published.proofs.pins.grow_pins.Goals as goal

pub add_wires-requires : goal.add_wires-requires
add_wires-requires g c = within_marks c.args.facts.now.shape c.args.pins.now.items _ (subst (λ (m : Shape). length c.in-Ok.field.wires ≡ wires_of m) c.shape-shape.ensures c.in-Ok.ensures.field.wires) c.requires.within

pub grow-requires-clause-field : goal.grow-requires-clause-field
grow-requires-clause-field g c = record { wires = c.add_wires.ensures.len ∙ c.in-Ok.ensures.field.wires ∙ ap wires_of c.shape-shape.ensures; crosses = c.in-Ok.ensures.field.crosses ∙ ap crosses_of c.shape-shape.ensures }

pub returns-clause-found_each : goal.returns-clause-found_each
returns-clause-found_each g c = on_ok c.grow.result c.grow.ensures.closed_each
    (λ closed f e. pins_grown _ _ _ _ c.args.count c.args.pins.now.items _ _ c.grow.ensures.advances.more.shape (held c.grow.ensures.advances e) c.requires.count c.requires.pins c.add_wires.ensures (closed f e))

pub returns-clause-loads_each : goal.returns-clause-loads_each
returns-clause-loads_each g c = λ f e. few_loads _ _ _ c.args.pins.now.items _ _ _ c.args.count c.requires.length c.in-Ok.ensures.wires c.in-Ok.ensures.crosses c.add_wires.ensures (c.grow.ensures.few_each f e)
