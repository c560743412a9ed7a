use Rattle.place_plan.proofs.Vocabulary.{◌≡◌, ℕ, ◌+◌, List, length, ap, ◌∙◌, subst, most_ticks, Need}
use Rattle.place_plan.specs.Vocabulary.{IsLaid, AreThose, AreNeeds, IsTerminal, nets_in, IsFreeTableOf, IsFreePinOf, IsFirstShort}
use Rattle.place_plan.proofs.Fitting.{needs_are, have_is, few_tables, never_fits}
use Rattle.place_plan.proofs.fit.lay_out.Goals as goal

pub laid-requires-clause-few : goal.laid-requires-clause-few
laid-requires-clause-few c =
    let D = c.args.defects.now in
    few_tables D.shape D.list c.args.network.now c.tables_wanted-tables.result c.as_slice.result.now c.most_ticks-most.result c.tables_wanted-tables.ensures.need c.tables_wanted-tables.ensures.have (c.most_ticks-most.ensures ∙ ap most_ticks c.shape.ensures.shape)

pub returns-clause-none : goal.returns-clause-none
returns-clause-none c =
    let D = c.args.defects.now in
    let m = D.shape in
    let n = c.args.network.now in
    let p = c.args.plan.now in
    let t : Need = c.tables_wanted-tables.result in
    let q : Need = c.pins_wanted-pins.result in
    let tables : AreThose (IsFreeTableOf m D.list) c.in_ok-tables.tables = c.in_ok-tables.ensures in
    let pins : AreThose (IsFreePinOf m D.list) c.in_ok-pins.pins = c.in_ok-pins.ensures in
    let needs : AreNeeds m D.list n t q = needs_are m D.list n c.in_ok-tables.tables c.in_ok-pins.pins t q tables pins c.tables_wanted-tables.ensures.need (have_is m D.list n t.have c.most_ticks-most.result c.as_slice.result.now c.in_ok-tables.tables c.shape.result c.tables_wanted-tables.ensures.have c.as_slice.ensures c.most_ticks-most.ensures c.shape.ensures.shape) c.pins_wanted-pins.ensures.need (c.pins_wanted-pins.ensures.have ∙ ap (λ (z : List ℕ). length z) c.as_slice-2.ensures) in
    let is : IsLaid m D.list n p t q c.in_ok-layout.field-0 = c.in_ok-layout.ensures in
    let short : IsFirstShort m D.list (nets_in n) (IsTerminal m n p) t q c.in-Lacks.field-0 = subst (IsLaid m D.list n p t q) c.in-Lacks.is is in
    never_fits m D.list n p t q c.in-Lacks.field-0 needs short
