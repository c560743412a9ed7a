use Rattle.map_network.proofs.PruneLemmas.{follow_start}
use Rattle.map_network.proofs.useless.useless_tables.Goals as goal

pub follow-requires : goal.follow-requires
follow-requires c = follow_start c.args.network.now c.as_slice.result.now c.in_ok-marks.marks.items c.use_all.new.marks.items c.in_ok-queue.queue.items c.use_all.new.queue.items c.as_slice.ensures (c.in_ok-marks.ensures {u = tt}) c.in_ok-queue.ensures.items (c.in_ok-use_all.ensures {u = tt})
