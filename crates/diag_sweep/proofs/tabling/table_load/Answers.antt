use Rattle.diag_sweep.proofs.Vocabulary.{refl, all_still}
use Rattle.diag_sweep.proofs.{Going.goes_whole, Going.set_by, Led.where_done, Tabled.table_goes, Tabled.tabled_set, Tabled.wrong_marks}
use Rattle.diag_sweep.proofs.tabling.table_load.Goals as goal

pub returns-clause-goes : goal.returns-clause-goes
returns-clause-goes g c =
    let test = c.tables_each.ensures in
    let given = rw c.deref.ensures.value at c.if-not-are_given.ensures refl in
    goes_whole (all_still c.args.facts.now c.tables_each.new.self (set_by _ _ c.tables_each.result (where_done c.tables_each.result test.logged tabled_set) test.refused) c.requires.hand.all)
    (table_goes c.args.table_sweep.now.tables.items c.requires.hand (c.if-not-can_pay.ensures refl) test.loads test.advances.more test.advances.explained
    (wrong_marks _ c.args.table_sweep.now.tables.items _ _ _ _ _ _ _ c.tables_each.result given test.marks test.logged test.unmarked) test.wrong_each)
