use Rattle.map_eval.proofs.Vocabulary.{Option, IfSome, subst, Network, IsPlaced}
use Rattle.map_eval.proofs.RunLemmas.{stands_in}
use Rattle.map_eval.proofs.placing.ordered_by.Goals as goal

pub returns : goal.returns
returns c = stands_in c.args.network.now c.in-Some.placed c.requires (subst (λ (o : Option Network). IfSome o (IsPlaced c.args.network.now)) c.in-Some.is (c.in_ok-placed.ensures {u = tt})) (c.are_in_range.ensures c.if-not-are_in_range.false) (c.is_ordered.ensures.yes c.if-not-is_ordered.false)
