use Rattle.place_plan.proofs.Vocabulary.{◌≡◌, ℕ, List, length, sym, ap, ◌∙◌, subst, arith, most_ticks, IsLaid}
use Rattle.place_plan.specs.declared.layout.Laid.TheVariants as laid
use Rattle.place_plan.proofs.{Fitting.few_tables, Seated.Known, Seated.known}
use Rattle.place_plan.proofs.fit.in_order_laid.Goals as goal

pub laid-requires-clause-plan : goal.laid-requires-clause-plan
laid-requires-clause-plan c =
    let D = c.args.defects.now in
    (known D.shape D.list c.args.network.now c.in_ok-plan.plan c.in_ok-free_tables.free_tables c.in_ok-free_pins.free_pins c.as_slice.result.now c.as_slice-2.result.now c.as_slice-3.result.now c.as_slice-4.result.now c.tables_wanted-tables.result c.pins_wanted-pins.result c.shape.result c.most_ticks-most.result c.in_ok-free_tables.ensures c.in_ok-free_pins.ensures c.as_slice.ensures c.as_slice-2.ensures c.as_slice-3.ensures c.as_slice-4.ensures c.shape.ensures.shape c.most_ticks-most.ensures
    c.tables_wanted-tables.ensures.need c.tables_wanted-tables.ensures.have c.pins_wanted-pins.ensures.need c.pins_wanted-pins.ensures.have c.if-tables.false c.if-pins.false c.in_ok-plan.ensures).plan

pub sit-requires-clause-tables : goal.sit-requires-clause-tables
sit-requires-clause-tables c =
    let same : length c.as_slice.result.now ≡ length c.as_slice-3.result.now = ap (λ (ts : List ℕ). length ts) (c.as_slice.ensures ∙ sym c.as_slice-3.ensures) in
    omega (arith, c.tables_wanted-tables.ensures.need, c.tables_wanted-tables.ensures.have, c.if-tables.false, same)

pub laid-requires-clause-few : goal.laid-requires-clause-few
laid-requires-clause-few c =
    let D = c.args.defects.now in
    few_tables D.shape D.list c.args.network.now c.tables_wanted-tables.result c.as_slice.result.now c.most_ticks-most.result c.tables_wanted-tables.ensures.need c.tables_wanted-tables.ensures.have (c.most_ticks-most.ensures ∙ ap most_ticks c.shape.ensures.shape)

pub returns-in-Out-clause-plan : goal.returns-in-Out-clause-plan
returns-in-Out-clause-plan c =
    let D = c.args.defects.now in
    let m = D.shape in
    let n = c.args.network.now in
    let p = c.in_ok-plan.plan in
    let t = c.tables_wanted-tables.result in
    let q = c.pins_wanted-pins.result in
    let k : Known m D.list n p t q = known m D.list n p c.in_ok-free_tables.free_tables c.in_ok-free_pins.free_pins c.as_slice.result.now c.as_slice-2.result.now c.as_slice-3.result.now c.as_slice-4.result.now t q c.shape.result c.most_ticks-most.result c.in_ok-free_tables.ensures c.in_ok-free_pins.ensures c.as_slice.ensures c.as_slice-2.ensures c.as_slice-3.ensures c.as_slice-4.ensures c.shape.ensures.shape c.most_ticks-most.ensures
    c.tables_wanted-tables.ensures.need c.tables_wanted-tables.ensures.have c.pins_wanted-pins.ensures.need c.pins_wanted-pins.ensures.have c.if-tables.false c.if-pins.false c.in_ok-plan.ensures in
    let is : IsLaid m D.list n p t q c.in_ok-layout.field-0 = c.in_ok-layout.ensures in
    let out : IsLaid m D.list n p t q (laid.Out c.in-Out.layout) = subst (IsLaid m D.list n p t q) c.in-Out.is is in
    record { plan = k.plan; in_order = k.in_order; fits = record { tables = t; pins = q; needs = k.needs; suffices = out.0 } }

pub returns-in-Out-clause-layout : goal.returns-in-Out-clause-layout
returns-in-Out-clause-layout c =
    let D = c.args.defects.now in
    let L = IsLaid D.shape D.list c.args.network.now c.in_ok-plan.plan c.tables_wanted-tables.result c.pins_wanted-pins.result in
    let is : L c.in_ok-layout.field-0 = c.in_ok-layout.ensures in
    let out : L (laid.Out c.in-Out.layout) = subst L c.in-Out.is is in
    out.1
