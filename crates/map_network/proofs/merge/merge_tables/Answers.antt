use Rattle.map_network.proofs.Vocabulary.{subst, Network, IsNoDeeper}
use Rattle.map_network.proofs.ReducedLemmas.{inputs_of, outputs_of}
use Rattle.map_network.proofs.merge.merge_tables.Goals as goal

pub returns-clause-inputs : goal.returns-clause-inputs
returns-clause-inputs c = inputs_of c.args.netlist.now c.in_ok-whole.whole c.in_ok-network.network c.in_ok-whole.ensures.plain c.in_ok-network.ensures.merged

pub returns-clause-outputs : goal.returns-clause-outputs
returns-clause-outputs c = outputs_of c.args.netlist.now c.in_ok-whole.whole c.in_ok-network.network c.in_ok-whole.ensures.plain c.in_ok-network.ensures.merged

pub returns-clause-shallow : goal.returns-clause-shallow
returns-clause-shallow c = subst (λ (n : Network). IsNoDeeper n c.in_ok-network.network) c.in_ok-whole.ensures.plain c.in_ok-network.ensures.merged.same.shallow
