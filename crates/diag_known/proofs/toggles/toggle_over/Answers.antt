use Rattle.diag_known.proofs.{Passing.over_lost, Settling.if_ok_so}
use Rattle.diag_known.proofs.toggles.toggle_over.Goals as goal

pub returns-clause-lost_each : goal.returns-clause-lost_each
returns-clause-lost_each g c = if_ok_so c.toggle.result c.toggle.ensures.passes_each
    (λ yes passes f e is_no. over_lost c.requires.known c.in-Ok.ensures c.requires.differ c.requires.new c.requires.foot.known c.requires.foot.at c.requires.over.at c.requires.over.within c.requires.hangs
    (passes f e) c.toggle.ensures.advances.more is_no)
