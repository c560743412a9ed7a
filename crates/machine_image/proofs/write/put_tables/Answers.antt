use Rattle.machine_image.proofs.Vocabulary.{◌+◌, refl, setting_of, table_bytes, on_at}
use Rattle.machine_image.proofs.Written.{put_piece}
use Rattle.machine_image.proofs.write.put_tables.Goals as goal

pub tables-preserved : goal.tables-preserved
tables-preserved c =
    let g = c.args.config.now.config in
    put_piece table_bytes (λ t. on_at t (setting_of g t)) c.args.out.now.items c.tables.out.items c.put_table.new.out.items c.tables.t (c.tables.t + 1) c.tables.invariant refl c.in_ok-put_table.ensures
