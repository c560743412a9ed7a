use Rattle.map_eval.proofs.Vocabulary.{subst, Option, MatchOption, Network, IsStandIn, IsOrdered}
use Rattle.map_eval.proofs.RunLemmas.{first_of}
use Rattle.map_eval.proofs.eval.NetworkEval.start.Goals as goal

pub returns : goal.returns
returns c =
    let n = c.args.network.now in
    let first = c.in_ok-run.ensures {u = tt} in
    first_of n c.in-Some.ordered _ (subst (λ (o : Option Network). MatchOption o (IsOrdered n → ⊥) (IsStandIn n)) c.in-Some.is (c.in_ok-ordered.ensures {u = tt})) first.network first.values
