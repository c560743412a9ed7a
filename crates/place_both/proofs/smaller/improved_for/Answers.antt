use Rattle.place_both.proofs.Vocabulary.{IfOk, subst, Network, IsImproved}
use Rattle.std.specs.Prelude.{IfSome}
use Rattle.place_both.proofs.smaller.improved_for.Goals as goal

pub returns : goal.returns
returns c = subst (λ (x : Network). IfOk c.improved_plan.result (λ o. IfSome o (IsImproved c.args.list.now x))) c.in_ok-network.ensures.joint c.improved_plan.ensures
