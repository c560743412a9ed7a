use Rattle.diag_evidence.proofs.{Sessions.on_ok, Sessions.rows_each, Fewer.few_load, Fewer.most_look, Logging.logs_rows}
use Rattle.std.proofs.Common.{◌∙◌, length, arith}
use Rattle.diag_evidence.proofs.readings.read_rows.Goals as goal

pub returns-clause-few : goal.returns-clause-few
returns-clause-few g c =
    few_load _ _ (length c.args.drives.now) (c.cycles.ensures.machine ∙ c.in_ok-begin.ensures.loads.machine) (c.cycles.ensures.loads ∙ c.in_ok-begin.ensures.counted) (omega (arith, c.cycles.ensures.made, c.begin.ensures.made))
    (most_look _ c.args.config.now.config.shape c.requires.attached (length c.args.drives.now) c.requires.few)

pub returns-clause-run_each : goal.returns-clause-run_each
returns-clause-run_each g c = on_ok c.cycles.result c.cycles.ensures.cycles (λ goes. rows_each _ _ c.args.config.now.config _ c.args.drives.now _ c.in_ok-begin.ensures.begins goes)

pub returns-clause-logged : goal.returns-clause-logged
returns-clause-logged g c = on_ok c.cycles.result c.cycles.ensures.cycles (λ goes. logs_rows _ _ _ c.args.config.now.config _ c.args.drives.now _ c.begin.ensures.logged c.in_ok-begin.ensures.begins goes)
