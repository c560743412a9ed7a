use Rattle.map_network.proofs.PruneLemmas.{used_more}
use Rattle.map_network.proofs.useless.use_all.Goals as goal

pub sources-preserved : goal.sources-preserved
sources-preserved c = used_more c.args.sources.now c.sources.k c.args.marks.now.items c.args.queue.now.items c.sources.marks.items c.sources.queue.items c.sources.invariant c.use_source.new.marks.items c.use_source.new.queue.items c.sources-test.true (c.in_ok-use_source.ensures {u = tt})
