use Rattle.diag_check.proofs.Vocabulary.{subst, IsPickedAt}
use Rattle.diag_check.proofs.Picking.{picks_pushed}
use Rattle.diag_check.proofs.picks.frame_of.Goals as goal

pub nodes-preserved : goal.nodes-preserved
nodes-preserved c =
    let p = c.in_ok-picks_of.field-0 in
    let is = subst (λ most. IsPickedAt c.args.shape.now c.nodes.n most p) c.room_for-room.ensures c.in_ok-picks_of.ensures in
    rw c.in_ok-push.ensures.items (picks_pushed c.args.shape.now c.args.parts.now.nodes c.args.most c.nodes.n c.nodes.picks.items p c.nodes.invariant is)
