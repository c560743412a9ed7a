use Rattle.place_plan.proofs.Vocabulary.{◌<◌, sym, subst, Own, Child, Outside, IsAt, IsHeld, IsTapFor}
use Rattle.place_plan.proofs.{Climbs.child_within, Tapping.found_same, Tapping.tap_for}
use Rattle.place_plan.proofs.taps.tap_at.Goals as goal

pub held-requires-clause-crossing : goal.held-requires-clause-crossing
held-requires-clause-crossing c =
    let m = c.args.crossed.now.tree.now.shape in
    subst (λ z. c.in-Child.child < z) (sym c.requires.crossing) (child_within m (c.the_numbering_is_sound.ensures.parents m) c.args.node.0 c.args.wire.0 c.in-Child.child (c.in-Child.ensures {u = tt}))

pub held-requires-clause-ports : goal.held-requires-clause-ports
held-requires-clause-ports c =
    let m = c.args.crossed.now.tree.now.shape in
    subst (λ z. c.in-Child.child < z) (sym c.requires.ports) (child_within m (c.the_numbering_is_sound.ensures.parents m) c.args.node.0 c.args.wire.0 c.in-Child.child (c.in-Child.ensures {u = tt}))

pub held-requires-clause-ascending : goal.held-requires-clause-ascending
held-requires-clause-ascending c =
    let m = c.args.crossed.now.tree.now.shape in
    c.requires.ascending c.in-Child.child (child_within m (c.the_numbering_is_sound.ensures.parents m) c.args.node.0 c.args.wire.0 c.in-Child.child (c.in-Child.ensures {u = tt}))

pub returns-in-Own : goal.returns-in-Own
returns-in-Own c =
    let m = c.args.crossed.now.tree.now.shape in
    let at : IsAt m c.args.node.0 c.args.wire.0 (Own c.in-Own.tap) = subst (IsAt m c.args.node.0 c.args.wire.0) c.in-Own.is c.strand_at.ensures in
    ((Own c.in-Own.tap, at, λ _. c.in-Own.tap), λ u is. sym (tap_for m c.args.crossed.now.crossing.now c.args.crossed.now.ports.now c.args.node.0 c.args.net.0 (c.the_numbering_is_sound.ensures.tree m) c.args.wire.0 (Own c.in-Own.tap) u at is))

pub returns-in-Child : goal.returns-in-Child
returns-in-Child c =
    let m = c.args.crossed.now.tree.now.shape in
    let x = c.args.crossed.now.crossing.now in
    let p = c.args.crossed.now.ports.now in
    let at : IsAt m c.args.node.0 c.args.wire.0 (Child c.in-Child.child) = subst (IsAt m c.args.node.0 c.args.wire.0) c.in-Child.is c.strand_at.ensures in
    found_same (IsHeld x p c.in-Child.child c.args.net.0) (IsTapFor m x p c.args.node.0 c.args.net.0 c.args.wire.0) c.held.result
    (λ t h. (Child c.in-Child.child, at, h)) (λ t h. tap_for m x p c.args.node.0 c.args.net.0 (c.the_numbering_is_sound.ensures.tree m) c.args.wire.0 (Child c.in-Child.child) t at h) c.held.ensures

pub returns-in-Outside : goal.returns-in-Outside
returns-in-Outside c =
    let m = c.args.crossed.now.tree.now.shape in
    let x = c.args.crossed.now.crossing.now in
    let p = c.args.crossed.now.ports.now in
    let at : IsAt m c.args.node.0 c.args.wire.0 Outside = subst (IsAt m c.args.node.0 c.args.wire.0) c.in-Outside.is c.strand_at.ensures in
    found_same (IsHeld x p c.args.node.0 c.args.net.0) (IsTapFor m x p c.args.node.0 c.args.net.0 c.args.wire.0) c.held-in-Outside.result
    (λ t h. (Outside, at, h)) (λ t h. tap_for m x p c.args.node.0 c.args.net.0 (c.the_numbering_is_sound.ensures.tree m) c.args.wire.0 Outside t at h) c.held-in-Outside.ensures
