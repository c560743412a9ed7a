use Rattle.diag_growth.specs.Choices.{AreInputArms}
use Rattle.diag_growth.proofs.choices.input_arms.Given as goal

abbrev pub invariant-inputs : goal.invariant-inputs
invariant-inputs l = record { arms : AreInputArms l.facts l.known.steps l.t.0 l.near.0 l.input l.arms.items }
