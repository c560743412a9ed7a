use Rattle.diag_evidence.proofs.Hung.{all_hang_by}
use Rattle.diag_evidence.proofs.joins.all_hang.Goals as goal

pub returns : goal.returns
returns c = all_hang_by c.args.set.now c.args.forest.now c.hung.result.now c.hung.ensures.hung c.is_within.result c.is_within.ensures.yes c.is_within.ensures.no
