use Rattle.machine_history.proofs.Lasting.{tenant_runs_alone}
use Rattle.machine_history.proofs.alone.left_alone_runs_alone.Goals as goal

pub returns : goal.returns
returns c = λ whole tenant h none n drives reads alone image is left faultless quiet p q.
    tenant_runs_alone whole tenant is h none n drives reads alone image is left faultless quiet p q
