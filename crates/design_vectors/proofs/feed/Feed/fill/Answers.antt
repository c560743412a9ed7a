use Rattle.std.proofs.Common.{arith}
use Rattle.design_vectors.proofs.FeedLemmas.{fed}
use Rattle.design_vectors.proofs.feed.Feed.fill.Goals as goal

pub returns-clause-bytes : goal.returns-clause-bytes
returns-clause-bytes g c =
    let d = c.in_ok-count.ensures in
    let state = g.S.Store.store_state in
    fed (state c.args.store.now) (state c.read.new.self) c.read.new.into _ c.self.inside.buffer.len c.in_ok-count.count d.contents d.place d.room (omega (arith, c.read.auto.into, c.deref_mut.ensures.len)) d.bytes
