use Rattle.map_network.proofs.ReducedLemmas.{merged_first, merged_on}
use Rattle.map_network.proofs.merge.merged_whole.Goals as goal

pub passes-init : goal.passes-init
passes-init c = record {
  merged = merged_first c.args.whole c.in_ok-network.network c.in_ok-network.ensures;
  found = c.in_ok-found.ensures {u = tt};
}

pub passes-preserved : goal.passes-preserved
passes-preserved c = record {
  merged = merged_on c.args.whole c.passes.network c.in_ok-network-2.network c.passes.invariant.merged (c.in_ok-network-2.ensures {u = tt});
  found = c.in_ok-found-2.ensures {u = tt};
}
