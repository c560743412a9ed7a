use Rattle.std.proofs.Common.{refl}
use Rattle.design_equal.proofs.cover.is_met.Goals as goal

pub returns-clause-met : goal.returns-clause-met
returns-clause-met c = λ yes. c.is_met_by.ensures.met yes c.args.graph.now c.args.labels.now (c.if-not-is_plan.ensures refl)
