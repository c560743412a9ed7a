use Rattle.machine_shape.proofs.Vocabulary.{◌∙◌, refl, sym, ap, subst, arith, levels_of, way_to_table, IsSpot, start, wires_in}
use Rattle.machine_shape.proofs.{Numbering.table_way_is, Numbering.wire_below, Numbering.table_pin_is, Meanings.table_wire-way}
use Rattle.machine_shape.proofs.Totals.{wires_are}
use Rattle.machine_shape.proofs.Shape.pin_of.Goals as goal

pub first_wire-requires : goal.first_wire-requires
first_wire-requires c = subst (IsSpot (levels_of c.args.self.now)) (sym (c.steps_of.ensures ∙ c.table_way-way.ensures)) (table_way_is c.args.self.now c.args.t.0 c.requires.table).0

pub overflow_add-result : goal.overflow_add-result
overflow_add-result c =
    let first = c.first_wire.ensures ∙ ap (start wires_in (levels_of c.args.self.now)) (c.steps_of.ensures ∙ c.table_way-way.ensures) in
    let whole = table_wire-way c.args.self.now c.args.t.0 c.args.k (way_to_table c.args.self.now c.args.t.0) refl in
    let below = wire_below c.args.self.now _ _ (table_pin_is c.args.self.now c.args.t.0 c.args.k c.requires.table c.requires.pin) in
    let few = wires_are c.args.self.now in omega arith

pub returns-clause-wire : goal.returns-clause-wire
returns-clause-wire c =
    let first = c.first_wire.ensures ∙ ap (start wires_in (levels_of c.args.self.now)) (c.steps_of.ensures ∙ c.table_way-way.ensures) in
    let whole = table_wire-way c.args.self.now c.args.t.0 c.args.k (way_to_table c.args.self.now c.args.t.0) refl in omega arith

pub returns-clause-within : goal.returns-clause-within
returns-clause-within c =
    let first = c.first_wire.ensures ∙ ap (start wires_in (levels_of c.args.self.now)) (c.steps_of.ensures ∙ c.table_way-way.ensures) in
    let whole = table_wire-way c.args.self.now c.args.t.0 c.args.k (way_to_table c.args.self.now c.args.t.0) refl in
    let below = wire_below c.args.self.now _ _ (table_pin_is c.args.self.now c.args.t.0 c.args.k c.requires.table c.requires.pin) in omega arith
