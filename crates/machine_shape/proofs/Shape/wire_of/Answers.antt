use Rattle.std.proofs.Common.{◌∙◌, sym}
use Rattle.machine_shape.proofs.Called.{none_also, root_shape}
use Rattle.machine_shape.proofs.Shape.wire_of.Goals as goal

pub returns-in-None-clause-none : goal.returns-in-None-clause-none
returns-in-None-clause-none c = none_also c.inner_wire.result (λ none w h n. c.in-None.ensures.none _ (sym n ∙ root_shape c.args.self.now w (none w h n))) c.inner_wire.ensures.none
