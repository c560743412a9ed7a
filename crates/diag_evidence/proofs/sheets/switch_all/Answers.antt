use Rattle.diag_evidence.proofs.Vocabulary.{◌<◌, length, ◌∙◌, arith, length-set, tables_of}
use Rattle.diag_evidence.proofs.Settings.{switches_more, within_at}
use Rattle.diag_evidence.proofs.sheets.switch_all.Goals as goal

pub tables-preserved : goal.tables-preserved
tables-preserved c =
    let below : c.tables.k < length c.args.tables.now = omega arith in
    let here : c.table_at.result.0 < tables_of c.args.config.now.config.shape = within_at _ c.args.tables.now c.tables.k c.table_at.result c.requires below c.table_at.ensures in
    rw c.switch_on.ensures (record {
      switched = switches_more c.args.tables.now c.tables.k c.table_at.result c.args.setting c.args.config.now.config c.tables.config.config below c.table_at.ensures (rw c.tables.invariant.room here) c.tables.invariant.switched;
      room = length-set c.tables.config.config.tables _ _ ∙ c.tables.invariant.room;
    })
