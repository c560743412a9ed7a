use Rattle.place_plan.proofs.Vocabulary.{◌≡◌, ◌++◌, ℕ, [], ◌∷◌, take, get_or, sym, subst, arith, take_more, take_all}
use Rattle.place_plan.specs.Taps.{AreTaps, IsFound, IsTapFor, with_option}
use Rattle.place_plan.proofs.Tapping.{taps_more}
use Rattle.place_plan.proofs.taps.taps_of.Goals as goal

pub loop-wire-preserved : goal.loop-wire-preserved
loop-wire-preserved c =
    let m = c.args.crossed.now.tree.now.shape in
    let x = c.args.crossed.now.crossing.now in
    let p = c.args.crossed.now.ports.now in
    let ws = c.args.wires.now in
    let i : ℕ = c.loop-wire.wire-index in
    let e : c.push_tap.new.taps ≡ with_option c.loop-wire.taps c.tap_at.result = c.in_ok-push_tap.ensures in
    let is : IsFound (IsTapFor m x p c.args.node.0 c.args.net.0 (get_or ws i 0)) c.tap_at.result = c.tap_at.ensures in
    subst (λ z. AreTaps m x p c.args.node.0 c.args.net.0 z c.push_tap.new.taps) (sym (take_more ws i 0 c.loop-wire-test.true))
    (subst (AreTaps m x p c.args.node.0 c.args.net.0 (take i ws ++ get_or ws i 0 ∷ [])) (sym e) (taps_more m x p c.args.node.0 c.args.net.0 (take i ws) c.loop-wire.taps (get_or ws i 0) c.tap_at.result c.loop-wire.invariant is))

pub returns : goal.returns
returns c =
    subst (λ z. AreTaps c.args.crossed.now.tree.now.shape c.args.crossed.now.crossing.now c.args.crossed.now.ports.now c.args.node.0 c.args.net.0 z c.loop-wire.taps) (take_all c.loop-wire.wire-index c.args.wires.now (omega arith)) c.loop-wire.invariant
