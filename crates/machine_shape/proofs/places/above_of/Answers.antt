use Rattle.std.proofs.Common.{◌∙◌, ap, take, arith}
use Rattle.machine_shape.proofs.Whereabouts.{above_steps}
use Rattle.machine_shape.proofs.places.above_of.Goals as goal

pub returns : goal.returns
returns c = ap (λ k. take k c.args.way.now.steps) c.saturating_sub.ensures ∙ above_steps c.args.way.now.len c.args.way.now.steps (omega arith) c.args.way.now.short
