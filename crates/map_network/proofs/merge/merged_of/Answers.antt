use Rattle.map_network.proofs.Vocabulary.{subst, Network, IsNoDeeper}
use Rattle.map_network.proofs.merge.merged_of.Goals as goal

pub returns-clause-shallow : goal.returns-clause-shallow
returns-clause-shallow c = subst (λ (n : Network). IsNoDeeper n c.in_ok-merged.merged) (c.in_ok-whole.ensures {u = tt}) c.in_ok-merged.ensures.merged.same.shallow
