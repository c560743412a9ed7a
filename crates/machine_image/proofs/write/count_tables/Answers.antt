use Rattle.machine_image.proofs.Vocabulary.{◌+◌, refl, ap, arith, setting_of, on_at}
use Rattle.machine_image.proofs.Written.{count_step}
use Rattle.machine_image.proofs.write.count_tables.Goals as goal

pub tables-preserved : goal.tables-preserved
tables-preserved c =
    let g = c.args.config.now.config in (
      count_step (λ t. on_at t (setting_of g t)) c.tables.t (c.tables.t + 1) c.tables.count (c.tables.count + c.count_table-count.result) refl c.tables.invariant.0 (ap (λ n. c.tables.count + n) c.count_table-count.ensures.count),
      omega (arith, c.tables.invariant.1, c.count_table-count.ensures.few),
    )
