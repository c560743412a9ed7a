use Rattle.std.proofs.Common.{length, false}
use Rattle.design_netlist.proofs.WordLemmas.{latch_within}
use Rattle.design_netlist.proofs.reads.among_latches.Goals as goal

pub sooner-best-requires : goal.sooner-best-requires
sooner-best-requires c = latch_within c.args.latches.now c.latches.k (length c.args.firsts.now) (record { from = 0; out = 0; init = false; line = 0 }) c.latches-test.true c.requires
