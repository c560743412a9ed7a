use Rattle.diag_evidence.proofs.{Footing.closed_just, Sessions.on_ok}
use Rattle.diag_evidence.proofs.sights.close_just.Goals as goal

pub returns : goal.returns
returns c = on_ok c.close_feet.result c.close_feet.ensures (λ more. closed_just c.args.forest.now c.args.feet.now _ _ c.in_ok-close_forest.ensures more)
