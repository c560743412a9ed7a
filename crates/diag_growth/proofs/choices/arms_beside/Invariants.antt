use Rattle.diag_growth.specs.Seating.{AreArmsTo}
use Rattle.diag_growth.proofs.choices.arms_beside.Given as goal

abbrev pub invariant-inputs : goal.invariant-inputs
invariant-inputs l = record { arms : AreArmsTo l.facts l.known.steps l.fn.t.0 l.fn.near.0 l.line.0 l.input l.chosen.items }
