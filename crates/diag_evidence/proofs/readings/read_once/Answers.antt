use Rattle.diag_evidence.proofs.{Sessions.on_ok, Sessions.cycled_once, Sessions.once_each, Fewer.few_load, Fewer.most_two}
use Rattle.diag_evidence.proofs.Logging.{logs_once}
use Rattle.std.proofs.Common.{◌∙◌, arith}
use Rattle.diag_evidence.proofs.readings.read_once.Goals as goal

pub returns-clause-few : goal.returns-clause-few
returns-clause-few g c =
    few_load _ _ 1 (c.cycle.ensures.machine ∙ c.in_ok-begin.ensures.loads.machine) (c.cycle.ensures.loads ∙ c.in_ok-begin.ensures.counted) (omega (arith, c.cycle.ensures.made, c.begin.ensures.made)) (most_two _ c.args.config.now.config.shape c.requires.attached 1 (omega arith))

pub returns-clause-session : goal.returns-clause-session
returns-clause-session g c = on_ok c.cycle.result c.cycle.ensures.cycles (λ one. cycled_once _ _ c.args.config.now.config _ c.args.drive.now _ c.in_ok-begin.ensures.begins one)

pub returns-clause-run_each : goal.returns-clause-run_each
returns-clause-run_each g c = on_ok c.cycle.result c.cycle.ensures.cycles (λ one. once_each _ _ c.args.config.now.config _ c.args.drive.now _ c.in_ok-begin.ensures.begins one)

pub returns-clause-logged : goal.returns-clause-logged
returns-clause-logged g c = on_ok c.cycle.result c.cycle.ensures.cycles (λ one. logs_once _ _ _ c.args.config.now.config _ c.args.drive.now _ c.begin.ensures.logged c.in_ok-begin.ensures.begins one)
