use Rattle.diag_evidence.proofs.{Closing.closed_along, Sessions.on_ok}
use Rattle.diag_evidence.proofs.leads.close_along.Goals as goal

pub returns : goal.returns
returns c = on_ok c.close_walks.result c.close_walks.ensures (λ more. closed_along c.args.forest.now c.args.leads.now _ _ c.in_ok-close_forest.ensures more)
