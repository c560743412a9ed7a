use Rattle.place_plan.proofs.Vocabulary.{◌<◌, ℕ, [], ◌∷◌, take, get_or, take_more, All-take, All-get_or, wires_of, IsSpread}
use Rattle.place_plan.proofs.Spreads.{spread_more}
use Rattle.place_plan.proofs.touch.touch_net.Goals as goal

pub loop-wire-preserved : goal.loop-wire-preserved
loop-wire-preserved c =
    let m = c.args.tree.now.shape in
    let i : ℕ = c.loop-wire.wire-index in
    let ws = c.args.wires.now in
    let w : ℕ = get_or ws i 0 in
    let lt : w < wires_of m = All-get_or (λ (w : ℕ). w < wires_of m) ws i 0 c.loop-wire-test.true c.requires.within in
    let step : IsSpread m (w ∷ []) c.args.net.0 c.loop-wire.touched c.touch_up.new.touched = c.in_ok-touch_up.ensures in
    rw (take_more ws i 0 c.loop-wire-test.true) (spread_more m (c.the_numbering_is_sound.ensures.parents m) (take i ws) w c.args.net.0 c.args.touched.now c.loop-wire.touched c.touch_up.new.touched lt (All-take (λ (w : ℕ). w < wires_of m) i ws c.requires.within) c.loop-wire.invariant step)
