use Rattle.std.proofs.Common.{◌≡◌, ◌∙◌, ◌+◌, ◌||◌, ◌==◌, length, get_or, sym, ap, subst, arith}
use Rattle.map_eval.proofs.Vocabulary.{get_or_default, NetTable, no_table, is_marked, AreGates}
use Rattle.map_eval.proofs.{StateLemmas.whole_items, SettleLemmas.gates_more}
use Rattle.map_eval.proofs.plan.gates_of.Goals as goal

pub tables-preserved : goal.tables-preserved
tables-preserved c =
    let l = c.tables-test.true in
    let e = ap length c.as_slice-tables.ensures in
    let at = get_or_default c.as_slice-tables.result.now c.tables.table c.index-tables-table.result no_table (omega arith) ∙ ap (λ ts. get_or ts c.tables.table no_table) c.as_slice-tables.ensures in
    subst (AreGates c.args.network.now (c.tables.table + 1)) (sym (whole_items c.tables.gates c.mark_if.new.marks (c.mark_if.ensures.len ∙ ap length c.deref_mut.ensures.value)))
    (gates_more c.args.network.now c.tables.table c.tables.gates.items c.mark_if.new.marks c.one_unless.result (get_or c.as_slice-tables.result.now c.tables.table c.index-tables-table.result).latched (omega arith) (ap (λ (t : NetTable). t.latched) at)
    (c.mark_if.ensures.len ∙ ap length c.deref_mut.ensures.value) c.one_unless.ensures.one c.one_unless.ensures.none
    (c.mark_if.ensures.this ∙ ap (λ ms. is_marked ms c.tables.table || (c.one_unless.result == 1)) c.deref_mut.ensures.value)
    (λ t d. c.mark_if.ensures.others t d ∙ ap (λ ms. is_marked ms t) c.deref_mut.ensures.value) c.tables.invariant)
