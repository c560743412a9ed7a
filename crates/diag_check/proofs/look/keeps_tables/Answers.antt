use Rattle.diag_check.proofs.Vocabulary.{sym, is_some, Table, setting_of, KeepsTableOf, of_set, to_set}
use Rattle.diag_check.proofs.{Looking.tables_each, Looking.tables_kept, Using.table_counts, Using.tables_within}
use Rattle.diag_check.proofs.look.keeps_tables.Goals as goal

pub keeps_each-requires-clause-tables : goal.keeps_each-requires-clause-tables
keeps_each-requires-clause-tables c = tables_within c.args.image.now c.config-config.result.now.config c.config-config.ensures.config c.tables_on.result.now c.tables_on.ensures c.config-config.ensures.right c.args.facts.now.shape (sym c.requires.shape)

pub returns : goal.returns
returns c =
    let k = c.args.facts.now in
    let i = c.args.image.now in
    let counts = table_counts i c.config-config.result.now.config c.config-config.ensures.config c.tables_on.result.now c.tables_on.ensures in (
      λ e. tables_kept k i (to_set (λ (t : Table). t.0) c.tables_on.result.now (λ q. is_some (setting_of i.config q)) counts (KeepsTableOf k i) (c.keeps_each.ensures.0 e)),
      λ keeps. c.keeps_each.ensures.1 (of_set (λ (t : Table). t.0) c.tables_on.result.now (λ q. is_some (setting_of i.config q)) counts (KeepsTableOf k i) (tables_each k i keeps)),
    )
