use Rattle.std.proofs.Common.{◌∙◌, sym}
use Rattle.machine_shape.proofs.OneShape.{same-shape}
use Rattle.diag_sweep.proofs.Holding.{same_counts}
use Rattle.diag_sweep.proofs.held.is_same.Goals as goal

pub returns : goal.returns
returns c = λ yes. same-shape c.args.one.now c.args.other.now (same_counts c.args.one.now.counts c.args.other.now.counts (sym c.eq.ensures ∙ yes))
