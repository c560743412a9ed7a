use Rattle.std.proofs.Common.{◌≡◌, List, ℕ, length, sym, ap, ◌∙◌, arith}
use Rattle.place_plan.proofs.Seated.{known}
use Rattle.place_plan.proofs.fit.seat_in_order.Goals as goal

pub sit-requires-clause-tables : goal.sit-requires-clause-tables
sit-requires-clause-tables c =
    let same : length c.as_slice.result.now ≡ length c.as_slice-3.result.now = ap (λ (ts : List ℕ). length ts) (c.as_slice.ensures ∙ sym c.as_slice-3.ensures) in
    omega (arith, c.tables_wanted-tables.ensures.need, c.tables_wanted-tables.ensures.have, c.if-tables.false, same)

pub returns-clause-plan : goal.returns-clause-plan
returns-clause-plan c =
    let D = c.args.defects.now in
    (known D.shape D.list c.args.network.now c.in_ok-plan.plan c.in_ok-free_tables.free_tables c.in_ok-free_pins.free_pins c.as_slice.result.now c.as_slice-2.result.now c.as_slice-3.result.now c.as_slice-4.result.now c.tables_wanted-tables.result c.pins_wanted-pins.result c.shape.result c.most_ticks-most.result
    c.in_ok-free_tables.ensures c.in_ok-free_pins.ensures c.as_slice.ensures c.as_slice-2.ensures c.as_slice-3.ensures c.as_slice-4.ensures c.shape.ensures.shape c.most_ticks-most.ensures
    c.tables_wanted-tables.ensures.need c.tables_wanted-tables.ensures.have c.pins_wanted-pins.ensures.need c.pins_wanted-pins.ensures.have c.if-tables.false c.if-pins.false c.in_ok-plan.ensures).plan

pub returns-clause-in_order : goal.returns-clause-in_order
returns-clause-in_order c =
    let D = c.args.defects.now in
    (known D.shape D.list c.args.network.now c.in_ok-plan.plan c.in_ok-free_tables.free_tables c.in_ok-free_pins.free_pins c.as_slice.result.now c.as_slice-2.result.now c.as_slice-3.result.now c.as_slice-4.result.now c.tables_wanted-tables.result c.pins_wanted-pins.result c.shape.result c.most_ticks-most.result
    c.in_ok-free_tables.ensures c.in_ok-free_pins.ensures c.as_slice.ensures c.as_slice-2.ensures c.as_slice-3.ensures c.as_slice-4.ensures c.shape.ensures.shape c.most_ticks-most.ensures
    c.tables_wanted-tables.ensures.need c.tables_wanted-tables.ensures.have c.pins_wanted-pins.ensures.need c.pins_wanted-pins.ensures.have c.if-tables.false c.if-pins.false c.in_ok-plan.ensures).in_order
