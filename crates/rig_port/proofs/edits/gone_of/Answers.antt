use Rattle.rig_port.proofs.Vocabulary.{◌<◌, get_or, subst, crosses_of}
use Rattle.rig_port.proofs.Closings.{closed_at, gone_next}
use Rattle.rig_port.proofs.edits.gone_of.Goals as goal

pub has_cross-requires : goal.has_cross-requires
has_cross-requires c =
    let x = get_or c.closed-closed.result.now c.closed.k (record { 0 = 0 }) in
    let closed = closed_at c.args.set.now.config c.closed-closed.result.now c.closed.k (record { 0 = 0 }) c.closed-closed.ensures c.closed-test.true in
    subst (λ m. x.0 < crosses_of m) c.requires (c.shape-shape.ensures.right.crosses x.0 closed)

pub closed-preserved : goal.closed-preserved
closed-preserved c =
    let x = get_or c.closed-closed.result.now c.closed.k (record { 0 = 0 }) in
    let closed = closed_at c.args.set.now.config c.closed-closed.result.now c.closed.k (record { 0 = 0 }) c.closed-closed.ensures c.closed-test.true in
    gone_next (crosses_of c.args.set.now.config.shape) c.args.config.now.config c.closed-closed.result.now c.closed.gone.items c.add_gone.new.gone.items c.closed.k (record { 0 = 0 })
    c.has_cross.result c.closed-test.true c.has_cross.ensures (c.shape-shape.ensures.right.crosses x.0 closed)
    (λ t. c.in_ok-add_gone.ensures.kept t) (λ f. c.in_ok-add_gone.ensures.gone f) c.closed.invariant
