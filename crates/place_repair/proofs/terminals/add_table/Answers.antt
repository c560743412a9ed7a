use Rattle.place_repair.proofs.Vocabulary.{◌≡◌, ◌<◌, sym, ap, ◌∙◌, subst, arith, Shape, table_wire, tables_of, wires_of}
use Rattle.place_repair.specs.Making.{IsAdded, IsTablePinTerminal, IsMovedTo}
use Rattle.place_repair.proofs.Adding.{added_none, no_table_pins, table_pins_more}
use Rattle.place_repair.proofs.terminals.add_table.Goals as goal

pub pin_of-requires-clause-table : goal.pin_of-requires-clause-table
pin_of-requires-clause-table c = subst (λ (m : Shape). c.args.table.0 < tables_of m) (sym c.shape-shape.ensures.shape) c.requires.table

pub pin_of-requires-in-loop-j-clause-table : goal.pin_of-requires-in-loop-j-clause-table
pin_of-requires-in-loop-j-clause-table c = subst (λ (m : Shape). c.args.place.0 < tables_of m) (sym c.shape-shape.ensures.shape) c.requires.place

pub add_moved-requires-clause-sized : goal.add_moved-requires-clause-sized
add_moved-requires-clause-sized c = c.loop-j.invariant.sized ∙ c.requires.sized

pub add_moved-requires-clause-within : goal.add_moved-requires-clause-within
add_moved-requires-clause-within c = subst (λ (m : Shape). c.pin_of.result.0 < wires_of m) c.shape-shape.ensures.shape c.pin_of.ensures.within

pub loop-j-init : goal.loop-j-init
loop-j-init c = added_none (IsTablePinTerminal c.args.config.now.config c.args.plan.now c.args.table.0 c.args.place.0 0) c.args.lists.now (no_table_pins c.args.config.now.config c.args.plan.now c.args.table.0 c.args.place.0)

pub loop-j-preserved : goal.loop-j-preserved
loop-j-preserved c =
    let g = c.args.config.now.config in
    let from : c.pin_of.result.0 ≡ table_wire g.shape c.args.table.0 c.loop-j.j = c.pin_of.ensures.wire ∙ ap (λ (m : Shape). table_wire m c.args.table.0 c.loop-j.j) c.shape-shape.ensures.shape in
    let to : c.pin_of-in-loop-j.result.0 ≡ table_wire g.shape c.args.place.0 c.loop-j.j = c.pin_of-in-loop-j.ensures.wire ∙ ap (λ (m : Shape). table_wire m c.args.place.0 c.loop-j.j) c.shape-shape.ensures.shape in
    table_pins_more g c.args.plan.now c.args.table.0 c.args.place.0 c.loop-j.j c.args.lists.now c.loop-j.lists c.add_moved.new.lists c.loop-j.invariant
    (subst (λ w. IsAdded (IsMovedTo g c.args.plan.now w (table_wire g.shape c.args.place.0 c.loop-j.j)) c.loop-j.lists c.add_moved.new.lists) from
    (subst (λ w. IsAdded (IsMovedTo g c.args.plan.now c.pin_of.result.0 w) c.loop-j.lists c.add_moved.new.lists) to c.in_ok-add_moved.ensures))

pub returns : goal.returns
returns c = subst (λ n. IsAdded (IsTablePinTerminal c.args.config.now.config c.args.plan.now c.args.table.0 c.args.place.0 n) c.args.lists.now c.loop-j.lists) (let e : c.loop-j.j ≡ 7 = omega arith in e) c.loop-j.invariant
