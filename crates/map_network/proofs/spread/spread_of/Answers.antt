use Rattle.map_network.proofs.Vocabulary.{subst, Network, IsNoDeeper, DoesSame}
use Rattle.map_network.proofs.spread.spread_of.Goals as goal

pub returns-clause-shallow : goal.returns-clause-shallow
returns-clause-shallow c =
    let spread = c.in_ok-spread.spread in
    let same : DoesSame c.in_ok-whole.whole spread = c.in_ok-spread.ensures {u = tt} in
    let first : IsNoDeeper c.args.network.now spread = subst (λ (n : Network). IsNoDeeper n spread) (c.in_ok-whole.ensures {u = tt}) same.shallow in
    λ depth deep. c.in_ok-merged.ensures.shallow depth (first depth deep)
