use Rattle.design_equal.proofs.Vocabulary.{subst, ◌∙◌, IsFrom}
use Rattle.design_equal.proofs.PlanLemmas.{gate_is}
use Rattle.design_equal.proofs.words.step_word.Goals as goal

pub returns-in-Gate : goal.returns-in-Gate
returns-in-Gate c = λ g pins steps below few from have bits lane at.
    c.gate_word.ensures lane at.within
    ∙ gate_is g pins steps below c.args.step.node c.in-Gate.left c.in-Gate.right c.args.pass c.args.words.now
    (subst (IsFrom g pins steps below c.args.step.node) c.in-Gate.is from) have bits lane at
